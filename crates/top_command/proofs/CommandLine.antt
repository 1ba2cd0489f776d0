-- What `clap` answers for the command.
use Rattle.std.proofs.Common.{◌≡◌, ◌≢◌, List, [], ◌∷◌, inl, inr, refl, sym, ap, subst, ◌∙◌, true, None}
use Rattle.std.specs.Prelude.{Option}
use Rattle.clap.proofs.OnLiterals.{clap_on_literals}
use Rattle.clap.specs.Simple.{App, is_simple, HasMatchesOf, matches_of}
use Rattle.clap.specs.Walk.{Text, Row, rows_of}
use Rattle.clap.specs.Matches.{found_of}
use Rattle.clap.specs.Kinds.{Kinds, HasKind}
use Rattle.clap.specs.Values.{kind_of}
use Rattle.clap.specs.Faults.{fault_of, is_simple_and_free}
use Rattle.clap.specs.declared.parser.matches.ArgMatches.{ArgMatches}
use Rattle.clap.specs.declared.error.Error.{Error}
use Rattle.clap.specs.declared.error.kind.ErrorKind.TheVariants as kind
use Rattle.top_command.specs.Command.{isl, refusals, given, Request, asked, asked_by, asked_unless}

-- it is a simple command, and no argument has a rule on another
isl_simple : is_simple isl ≡ true
unfolding clap_on_literals isl
isl_simple = refl

isl_free : is_simple_and_free isl ≡ true
unfolding clap_on_literals isl
isl_free = refl

-- an error that is no want of memory is one of the words
some_kind : (kinds : Kinds) (e : Error) → HasKind kinds e → kind_of e ≢ kind.OutOfMemory → kinds ≢ []
some_kind [] e (inl h) other = λ k. other h
some_kind [] e (inr h) other = λ k. h
some_kind (x ∷ xs) e h other = λ k. cc

-- what a parse by it says of the words
pub taken : (a : App) (words : List Text) → a ≡ isl → (is_simple_and_free a ≡ true → fault_of a words ≡ []) → refusals words ≡ []
unfolding refusals
taken a words is h = sym (ap (λ x. fault_of x words) is) ∙ h (ap is_simple_and_free is ∙ isl_free)

pub found : (a : App) (words : List Text) (m : ArgMatches) → a ≡ isl → HasMatchesOf a words m → rows_of (found_of m) ≡ given words
unfolding given
found a words m is h = (h (ap is_simple is ∙ isl_simple)).0 ∙ ap (λ x. matches_of x words) is

pub not_taken : (a : App) (words : List Text) (e : Error) → a ≡ isl → (is_simple_and_free a ≡ true → HasKind (fault_of a words) e) → kind_of e ≢ kind.OutOfMemory → refusals words ≢ []
unfolding refusals
not_taken a words e is h other =
    some_kind (fault_of isl words) e (subst (λ x. HasKind (fault_of x words) e) is (h (ap is_simple_and_free is ∙ isl_free))) other

-- and so of what they ask for
pub asks_none : (words : List Text) → refusals words ≢ [] → asked words ≡ None
asks_none words h = by_kinds (refusals words) (asked_by (given words)) h
  where
    by_kinds : (k : Kinds) (o : Option Request) → k ≢ [] → asked_unless k o ≡ None
    by_kinds [] o h = absurd (h refl)
    by_kinds (k ∷ ks) o h = refl

pub asks_by : (words : List Text) (rows : List Row) → refusals words ≡ [] → rows ≡ given words → asked words ≡ asked_by rows
asks_by words rows h e = ap (λ k. asked_unless k (asked_by (given words))) h ∙ ap asked_by (sym e)
