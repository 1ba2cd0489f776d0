-- The functions of names, by the numbers by which names are told apart.
use Rattle.std.proofs.Common.{◌≡◌, ℕ, ◌+◌, ◌<◌, ◌≤◌, ◌==◌, List, [], ◌∷◌, ◌++◌, length, drop, Some, None, refl, sym, ◌∙◌, ap, subst, arith}
use Rattle.std.specs.Prelude.{slice_get, slice_set, if◌then◌else◌}
use Rattle.std.specs.Str.{bytes_eq}
use Rattle.std.proofs.lemmas.List.{drop_all}
use Rattle.base.specs.model.DataRest.{rest_at}
use Rattle.lang_meaning.specs.declared.program.FunctionRow.{FunctionRow}
use Rattle.lang_meaning.specs.Lookup.{text}
use Rattle.eval_store.specs.declared.spellings.Spellings.{Spellings}
use Rattle.eval_store.specs.declared.store.Store.{Store}
use Rattle.eval_store.specs.declared.object.Object.{Object}
use Rattle.eval_store.specs.declared.word.Word.{Word}
use Rattle.eval_store.specs.Spelling.{number_of, IsSpelling}
use Rattle.eval_store.specs.Words.{value_of_word, object_of}
use Rattle.eval_store.specs.bridge.Told.{told}
use Rattle.eval_store.specs.bridge.Places.{none_more, looked_up}
use Rattle.eval_store.specs.declared.functions.NamedFunction.{NamedFunction}
use Rattle.eval_store.specs.declared.functions.NamedFunctions.{NamedFunctions}
use Rattle.eval_store.specs.Recipes.{IsMadeBy}
use Rattle.lang_meaning.specs.Recipes.{single, function_recipe}
use Rattle.eval_store.specs.Tables.{first_of_text, IsAlike, IsSet, IsFunctionObject, IsNoting}
use Rattle.eval_store.proofs.Made.{same_recipe}

-- a table with more room
pub alike_more : (t u : NamedFunctions) → u.entries ≡ t.entries ++ None ∷ [] → u.spellings ≡ t.spellings → IsAlike t u
alike_more t u e s = record { entries = λ i. rw e (none_more t.entries i); spellings = s }

pub alike_after : (t u v : NamedFunctions) → IsAlike t u → IsAlike u v → IsAlike t v
alike_after t u v a b = record { entries = λ i. b.entries i ∙ a.entries i; spellings = b.spellings ∙ a.spellings }

pub alike_itself : (t : NamedFunctions) → IsAlike t t
alike_itself t = record { entries = λ i. refl; spellings = refl }

-- a function is set, where there is room
pub function_set : (t u v : NamedFunctions) (name number : ℕ) (f : NamedFunction) → IsAlike t u → number ≡ number_of t.spellings name → number < length u.entries
    → v.entries ≡ slice_set u.entries number (Some f) → v.spellings ≡ u.spellings → IsSet t name f v
function_set t u v name number f a is inside e s = record {
  entries = λ names m x.
      let test : (number_of t.spellings m == number_of t.spellings name) ≡ bytes_eq (text names m) (text names name) = told names t.spellings m name x in
      let same : v.spellings ≡ t.spellings = s ∙ a.spellings in
      rw (same, e, looked_up u.entries number (number_of t.spellings m) f inside, is, test, a.entries (number_of t.spellings m)) refl;
  spellings = s ∙ a.spellings;
}

-- rows that are noted, the last one first

pub none_noted : (by : Spellings) (rows : List FunctionRow) (words : List Word) (at : ℕ) (t : NamedFunctions) → length rows ≤ at
    → t.entries ≡ [] → t.spellings ≡ by → IsNoting by (drop at rows) (drop at words) t
none_noted by rows words at t h e s = record {
  entries = λ names n x. rw (e, drop_all at rows h) refl;
  spellings = s;
}

pub one_noted : (by : Spellings) (rows : List FunctionRow) (words : List Word) (at : ℕ) (t u : NamedFunctions) (row : FunctionRow) (w : Word)
    → slice_get rows at ≡ Some row → slice_get words at ≡ Some w
    → IsNoting by (drop (at + 1) rows) (drop (at + 1) words) t → IsSet t row.name.0 (record { callee = row.callee; word = w }) u
    → IsNoting by (drop at rows) (drop at words) u
one_noted by rows words at t u row w h k p q = record {
  entries = λ names n x.
      let known : IsSpelling names t.spellings = subst (IsSpelling names) (sym p.spellings) x in
      rw (rest_at rows at row h, rest_at words at w k) (q.entries names n known ∙ ap (λ o. if bytes_eq (text names n) (text names row.name.0) then Some (record { callee = row.callee; word = w }) else o) (p.entries names n x));
  spellings = q.spellings ∙ p.spellings;
}

-- where there is no word, nothing is noted
nothing_noted : (names : List (List ℕ)) (rows : List FunctionRow) (name : List ℕ) → first_of_text names rows [] name ≡ None
nothing_noted names [] name = refl
nothing_noted names (f ∷ fs) name = refl

pub no_word : (by : Spellings) (rows : List FunctionRow) (words : List Word) (at : ℕ) (t : NamedFunctions) → length words ≤ at
    → IsNoting by (drop (at + 1) rows) (drop (at + 1) words) t → IsNoting by (drop at rows) (drop at words) t
no_word by rows words at t h p = record {
  entries = λ names n x.
      p.entries names n x
      ∙ ap (λ ws. first_of_text names (drop (at + 1) rows) ws (text names n)) (drop_all (at + 1) words (omega arith))
      ∙ nothing_noted names (drop (at + 1) rows) (text names n)
      ∙ sym (ap (λ ws. first_of_text names (drop at rows) ws (text names n)) (drop_all at words h) ∙ nothing_noted names (drop at rows) (text names n));
  spellings = p.spellings;
}

-- the object of a function is the one that its row says
pub function_added : {old new : Store} (row : FunctionRow) (o : Object) (w : Word) → IsFunctionObject row.callee o
    → IsMadeBy value_of_word (λ names. single (object_of names o)) old new w → IsMadeBy value_of_word (λ names. function_recipe row) old new w
function_added {old} {new} row o w f p = same_recipe (λ names. ap single (f.object names)) p
