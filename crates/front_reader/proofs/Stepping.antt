-- Steps of the machine: a gap in front changes nothing, and each lexeme does what its row says.
use Rattle.std.proofs.Common.{◌≡◌, ℕ, ◌<◌, false, List as Seq, [], ◌∷◌, ◌++◌, length, take, Option, Some, refl, ap, ◌∙◌, arith}
use Rattle.std.proofs.Math.Seq.{drop-append_seam, drop-append-add, take-append_seam, take-append-add}
use Rattle.base.specs.declared.place.Place.{Place}
use Rattle.base.specs.Data.{Item}
use Rattle.front_reader.specs.declared.opening.Opening.{Opening}
use Rattle.front_reader.specs.declared.opening.Opening.TheVariants.{List, Vector, Before}
use Rattle.front_reader.specs.declared.opening.Prefix.TheVariants.{Quote, Quasiquote, Unquote, UnquoteSplicing, Function}
use Rattle.front_reader.specs.declared.lexeme.Lexeme.{Lexeme}
use Rattle.front_reader.specs.declared.lexeme.Lexeme.TheVariants.{Close, Dot, Open, Integer, Character, Token, Bar, Text}
use Rattle.front_reader.specs.declared.lexeme.Lexed.TheVariants.{Taken}
use Rattle.front_reader.specs.declared.gap.Mode.TheVariants.{Between}
use Rattle.front_reader.specs.declared.gap.Skipped.{Skipped}
use Rattle.front_reader.specs.declared.gap.Skipped.TheVariants.{Ends, OpenFrom}
use Rattle.front_reader.specs.declared.pending.Pending.{Pending}
use Rattle.front_reader.specs.Characters.{begins, is_token, place_after, place_behind}
use Rattle.front_reader.specs.Gaps.{Gap}
use Rattle.front_reader.specs.Atoms.{Atom, Spells}
use Rattle.front_reader.specs.bridge.Lexemes.{skip, lex, atom_of}
use Rattle.front_reader.specs.bridge.Machine.{LexemeState, next, closing, act, atom_step, opening_step, dot_step, by_lexed, by_rest, by_gap, step, LexemeSteps, none, more}
use Rattle.front_reader.proofs.Shifting.{shifted, skip-front}
use Rattle.front_reader.proofs.Lexing.{lexes-spells, lexes-close, lexes-dot, opening_bytes, OpeningEnds, lexes-opening}

abbrev pub Numbers : Type 0
Numbers = Seq ℕ → Option ℕ

abbrev pub state : Seq ℕ → Place → Seq Item → Seq Pending → LexemeState
state r p done os = record { rest = r; place = p; done = done; pending = os }

pub place_behind-append : (p : Place) (xs ys : Seq ℕ) → place_behind p (xs ++ ys) ≡ place_behind (place_behind p xs) ys
place_behind-append p [] ys = refl
place_behind-append p (x ∷ xs) ys = place_behind-append (place_after p x) xs ys

by_gap-shifted : (number : Numbers) (g r : Seq ℕ) (p : Place) (done : Seq Item) (os : Seq Pending) (x : Skipped)
    → by_gap number (state (g ++ r) p done os) (shifted (length g) x)
    ≡ by_gap number (state r (place_behind p g) done os) x
unfolding by_gap
by_gap-shifted number g r p done os (Ends n) =
    rw (drop-append-add g r n, take-append-add g r n, place_behind-append p g (take n r)) refl
by_gap-shifted number g r p done os (OpenFrom n) =
    rw (drop-append-add g r n, take-append-add g r n, place_behind-append p g (take n r)) refl

-- a gap in front changes nothing
pub step-gap : (number : Numbers) (g r : Seq ℕ) (p : Place) (done : Seq Item) (os : Seq Pending) → Gap g r
    → step number (state (g ++ r) p done os) ≡ step number (state r (place_behind p g) done os)
unfolding step
step-gap number g r p done os h =
    ap (by_gap number (state (g ++ r) p done os)) (skip-front g r h)
    ∙ by_gap-shifted number g r p done os (skip Between 0 0 r)

-- what is done with a lexeme
step-lexed : (number : Numbers) (b r : Seq ℕ) (p : Place) (done : Seq Item) (os : Seq Pending) (x : Lexeme)
    → skip Between 0 0 (b ++ r) ≡ Ends 0 → lex (b ++ r) ≡ Taken (length b) x → 0 < length b
    → step number (state (b ++ r) p done os) ≡ act number (state r (place_behind p b) done os) p (b ++ r) b x
unfolding step by_gap by_rest by_lexed
step-lexed number [] r p done os x e l n = absurd (omega arith)
step-lexed number (c ∷ b) r p done os x e l n =
    ap (by_gap number (state ((c ∷ b) ++ r) p done os)) e
    ∙ ap (by_lexed number (state ((c ∷ b) ++ r) p done os)) l
    ∙ ap (λ q. act number (state q (place_behind p (take (length (c ∷ b)) ((c ∷ b) ++ r))) done os) p ((c ∷ b) ++ r) (take (length (c ∷ b)) ((c ∷ b) ++ r)) x) (drop-append_seam (c ∷ b) r)
    ∙ ap (λ w. act number (state r (place_behind p w) done os) p ((c ∷ b) ++ r) w x) (take-append_seam (c ∷ b) r)

act-atom : (number : Numbers) (s : LexemeState) (p : Place) (r w : Seq ℕ) (x : Lexeme) (a : Atom) → atom_of x w ≡ Some a
    → act number s p r w x ≡ atom_step number s p r (Some a)
act-atom number s p r w Close a h = absurd (cc)
act-atom number s p r w Dot a h = absurd (cc)
act-atom number s p r w (Open o) a h = absurd (cc)
act-atom number s p r w (Integer n) a h = ap (atom_step number s p r) h
act-atom number s p r w (Character n) a h = ap (atom_step number s p r) h
act-atom number s p r w Token a h = ap (atom_step number s p r) h
act-atom number s p r w Bar a h = ap (atom_step number s p r) h
act-atom number s p r w Text a h = ap (atom_step number s p r) h

-- an atom
pub step-atom : (number : Numbers) (b r : Seq ℕ) (p : Place) (done : Seq Item) (os : Seq Pending) (a : Atom)
    → Spells b r a
    → step number (state (b ++ r) p done os) ≡ atom_step number (state r (place_behind p b) done os) p (b ++ r) (Some a)
step-atom number b r p done os a h =
    let l = lexes-spells b r a h in
    step-lexed number b r p done os l.lexeme l.no_gap l.lexes l.some
    ∙ act-atom number (state r (place_behind p b) done os) p (b ++ r) b l.lexeme a l.spells

-- a `)`
pub step-close : (number : Numbers) (r : Seq ℕ) (p : Place) (done : Seq Item) (os : Seq Pending)
    → step number (state (41 ∷ r) p done os) ≡ closing (state r (place_behind p (41 ∷ [])) done os) p (41 ∷ r) os
step-close number r p done os =
    let l = lexes-close r in step-lexed number (41 ∷ []) r p done os Close l.1 l.0 (omega arith)

-- a dot
pub step-dot : (number : Numbers) (r : Seq ℕ) (p : Place) (done : Seq Item) (os : Seq Pending)
    → begins is_token r ≡ false
    → step number (state (46 ∷ r) p done os) ≡ dot_step (state r (place_behind p (46 ∷ [])) done os) p (46 ∷ r) os
step-dot number r p done os h =
    let l = lexes-dot r h in step-lexed number (46 ∷ []) r p done os Dot l.1 l.0 (omega arith)

opening-some : (o : Opening) → 0 < length (opening_bytes o)
opening-some List = omega arith
opening-some Vector = omega arith
opening-some (Before Quote) = omega arith
opening-some (Before Quasiquote) = omega arith
opening-some (Before Unquote) = omega arith
opening-some (Before UnquoteSplicing) = omega arith
opening-some (Before Function) = omega arith

-- an opening
pub step-opening : (number : Numbers) (o : Opening) (r : Seq ℕ) (p : Place) (done : Seq Item) (os : Seq Pending)
    → OpeningEnds o r
    → step number (state (opening_bytes o ++ r) p done os)
    ≡ opening_step number (state r (place_behind p (opening_bytes o)) done os) p (opening_bytes o ++ r) o
step-opening number o r p done os h =
    let l = lexes-opening o r h in
    step-lexed number (opening_bytes o) r p done os (Open o) l.1 l.0 (opening-some o)

-- steps one after another
pub steps-then : (number : Numbers) (s t u : LexemeState) → LexemeSteps number s t → LexemeSteps number t u → LexemeSteps number s u
steps-then number s t u a (none v) = a
steps-then number s t u a (more v w x b e) = more s w x (steps-then number s v w a b) e

-- one step
pub one-step : (number : Numbers) (s t : LexemeState) → step number s ≡ next t → LexemeSteps number s t
one-step number s t e = more s s t (none s) e
