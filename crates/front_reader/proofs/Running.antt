-- Runs of the machine: there is exactly one from each state.
use Rattle.std.proofs.Common.{◌≡◌, ℕ, zero, suc, ◌<◌, ◌≤◌, true, false, nat_le, List as Seq, [], ◌∷◌, length, take, drop, Option, Some, None, refl, sym, ap, subst, arith, length-drop, if◌then◌else◌}
use Rattle.base.specs.declared.place.Place.{Place}
use Rattle.base.specs.declared.reason.Reason.{Reason}
use Rattle.base.specs.declared.reason.Reason.TheVariants.{NestTooDeep}
use Rattle.base.specs.Data.{Item, Content}
use Rattle.front_reader.specs.declared.opening.Opening.{Opening}
use Rattle.front_reader.specs.declared.opening.Opening.TheVariants.{List, Vector, Before}
use Rattle.front_reader.specs.declared.lexeme.Lexeme.{Lexeme}
use Rattle.front_reader.specs.declared.lexeme.Lexeme.TheVariants.{Close, Dot, Open, Integer, Character, Token, Bar, Text}
use Rattle.front_reader.specs.declared.lexeme.Lexed.{Lexed}
use Rattle.front_reader.specs.declared.lexeme.Lexed.TheVariants.{Taken, Fault}
use Rattle.front_reader.specs.declared.gap.Mode.TheVariants.{Between}
use Rattle.front_reader.specs.declared.gap.Skipped.{Skipped}
use Rattle.front_reader.specs.declared.gap.Skipped.TheVariants.{Ends, OpenFrom}
use Rattle.front_reader.specs.declared.pending.Pending.{Pending}
use Rattle.front_reader.specs.declared.pending.Pending.TheVariants.{InList, AtDot, AtTail, InVector, AtPrefix}
use Rattle.front_reader.specs.Atoms.{Atom}
use Rattle.front_reader.specs.Meanings.{atom_content, prefix_name, prefix_item}
use Rattle.front_reader.specs.bridge.Lexemes.{skip, lex, atom_of}
use Rattle.front_reader.specs.bridge.Machine.{LexemeState, LexemesEnd, finished, stopped, unknown, LexemeStep, next, over, moved, put_in, put, full_dot, ending, closing, dot_step, prefix_step, opened, unless_full, opening_step, content_step, atom_step, act, by_lexed, by_rest, by_gap, step, LexemeSteps, none, more}
use Rattle.front_reader.proofs.Lexing.{lexes-within}
use Rattle.front_reader.proofs.Stepping.{Numbers}

-- the machine runs from the state to this outcome
pub data Runs (number : Numbers) : LexemeState → LexemesEnd → Type 0 where
  ends : (s : LexemeState) (o : LexemesEnd) → step number s ≡ over o → Runs number s o
  goes : (s t : LexemeState) (o : LexemesEnd) → step number s ≡ next t → Runs number t o → Runs number s o

-- a run from where steps lead
pub runs-after : (number : Numbers) (s t : LexemeState) (o : LexemesEnd) → LexemeSteps number s t → Runs number t o → Runs number s o
runs-after number s t o (none u) r = r
runs-after number s t o (more u v w a e) r = runs-after number u v o a (goes v w o e r)

-- there is one outcome
pub runs-once : (number : Numbers) (s : LexemeState) (o q : LexemesEnd) → Runs number s o → Runs number s q → o ≡ q
runs-once number s o q (ends t u e) (ends v w f) = cc
runs-once number s o q (ends t u e) (goes v w x f r) = absurd (cc)
runs-once number s o q (goes t u v e r) (ends w x f) = absurd (cc)
runs-once number s o q (goes t u v e r) (goes w x y f k) =
    let same : x ≡ u = cc in runs-once number u o q r (subst (λ z. Runs number z q) same k)

-- a step from a text of m bytes leaves fewer, and one that stops no more
abbrev pub LeavesFewer : ℕ → LexemeStep → Type 0
LeavesFewer m (next t) = length t.rest < m
LeavesFewer m (over (finished ds)) = Unit {0}
LeavesFewer m (over (stopped p r rest)) = length rest ≤ m
LeavesFewer m (over unknown) = Unit {0}

put_in-rest : (r : Seq ℕ) (p : Place) (done : Seq Item) (os : Seq Pending) (d : Item) → (put_in r p done os d).rest ≡ r
unfolding put_in
put_in-rest r p done [] d = refl
put_in-rest r p done (AtPrefix q n ∷ os) d = put_in-rest r p done os (prefix_item q n.0 d)
put_in-rest r p done (InList q ds ∷ os) d = refl
put_in-rest r p done (InVector q ds ∷ os) d = refl
put_in-rest r p done (AtDot q ds at ∷ os) d = refl
put_in-rest r p done (AtTail q ds at e ∷ os) d = refl

put-within : (m : ℕ) (s : LexemeState) (os : Seq Pending) (d : Item) → length s.rest < m → LeavesFewer m (put s os d)
put-within m s os d h = subst (λ r. length r < m) (sym (put_in-rest s.rest s.place s.done os d)) h

closing-within : (m : ℕ) (s : LexemeState) (p : Place) (r : Seq ℕ) (os : Seq Pending) → length s.rest < m → length r ≤ m
    → LeavesFewer m (closing s p r os)
closing-within m s p r [] h k = k
closing-within m s p r (AtPrefix q n ∷ os) h k = k
closing-within m s p r (InList q ds ∷ os) h k = put-within m s os _ h
closing-within m s p r (InVector q ds ∷ os) h k = put-within m s os _ h
closing-within m s p r (AtDot q ds at ∷ os) h k = k
closing-within m s p r (AtTail q ds at d ∷ os) h k = put-within m s os _ h

dot-within : (m : ℕ) (s : LexemeState) (p : Place) (r : Seq ℕ) (os : Seq Pending) → length s.rest < m → length r ≤ m
    → LeavesFewer m (dot_step s p r os)
dot-within m s p r [] h k = k
dot-within m s p r (AtPrefix q n ∷ os) h k = k
dot-within m s p r (InList q [] ∷ os) h k = k
dot-within m s p r (InList q (d ∷ ds) ∷ os) h k = h
dot-within m s p r (InVector q ds ∷ os) h k = k
dot-within m s p r (AtDot q ds at ∷ os) h k = k
dot-within m s p r (AtTail q ds at d ∷ os) h k = k

full-within : (m : ℕ) (o : Option Place) (r : Seq ℕ) (x : LexemeStep) → length r ≤ m → LeavesFewer m x → LeavesFewer m (unless_full o r x)
full-within m None r x k h = h
full-within m (Some at) r x k h = k

prefix-within : (m : ℕ) (s : LexemeState) (p : Place) (n : Option ℕ) → length s.rest < m → LeavesFewer m (prefix_step s p n)
prefix-within m s p None h = tt
prefix-within m s p (Some n) h = h

opened-within : (m : ℕ) (number : Numbers) (s : LexemeState) (p : Place) (o : Opening) → length s.rest < m → LeavesFewer m (opened number s p o)
opened-within m number s p List h = h
opened-within m number s p Vector h = h
opened-within m number s p (Before x) h = prefix-within m s p (number (prefix_name x)) h

opening-within : (m : ℕ) (number : Numbers) (s : LexemeState) (p : Place) (r : Seq ℕ) (o : Opening) → length s.rest < m → length r ≤ m
    → LeavesFewer m (opening_step number s p r o)
opening-within m number s p r o h k =
    elim (nat_le 256 (length s.pending)) as (λ b. LeavesFewer m (if b then over (stopped p NestTooDeep r) else unless_full (full_dot s.pending) r (opened number s p o))) [
      | true ↦ k
      | false ↦ full-within m (full_dot s.pending) r _ k (opened-within m number s p o h)
    ]

content-within : (m : ℕ) (s : LexemeState) (p : Place) (c : Option Content) → length s.rest < m → LeavesFewer m (content_step s p c)
content-within m s p None h = tt
content-within m s p (Some c) h = put-within m s s.pending _ h

atom-within : (m : ℕ) (number : Numbers) (s : LexemeState) (p : Place) (r : Seq ℕ) (a : Option Atom) → length s.rest < m → length r ≤ m
    → LeavesFewer m (atom_step number s p r a)
atom-within m number s p r None h k = tt
atom-within m number s p r (Some a) h k =
    full-within m (full_dot s.pending) r _ k (content-within m s p (atom_content number a) h)

act-within : (m : ℕ) (number : Numbers) (s : LexemeState) (p : Place) (r w : Seq ℕ) (x : Lexeme) → length s.rest < m → length r ≤ m
    → LeavesFewer m (act number s p r w x)
act-within m number s p r w Close h k = closing-within m s p r s.pending h k
act-within m number s p r w Dot h k = dot-within m s p r s.pending h k
act-within m number s p r w (Open o) h k = opening-within m number s p r o h k
act-within m number s p r w (Integer n) h k = atom-within m number s p r (atom_of (Integer n) w) h k
act-within m number s p r w (Character n) h k = atom-within m number s p r (atom_of (Character n) w) h k
act-within m number s p r w Token h k = atom-within m number s p r (atom_of Token w) h k
act-within m number s p r w Bar h k = atom-within m number s p r (atom_of Bar w) h k
act-within m number s p r w Text h k = atom-within m number s p r (atom_of Text w) h k

lexed-within : (m : ℕ) (number : Numbers) (s : LexemeState) (x : Lexed) → length s.rest ≤ m → 0 < length s.rest → lex s.rest ≡ x
    → LeavesFewer m (by_lexed number s x)
unfolding by_lexed
lexed-within m number s (Fault k r) h n e = h
lexed-within m number s (Taken k x) h n e =
    let w = lexes-within s.rest k x n e in
    act-within m number (moved k s) s.place s.rest (take k s.rest) x (omega (arith, w.0, w.1, length-drop k s.rest)) h

rest-within : (m : ℕ) (number : Numbers) (s : LexemeState) (r : Seq ℕ) → s.rest ≡ r → length s.rest ≤ m → LeavesFewer m (by_rest number s r)
unfolding by_rest
rest-within m number s [] e h = ending-within m s.done s.pending
  where
    ending-within : (m : ℕ) (done : Seq Item) (os : Seq Pending) → LeavesFewer m (ending done os)
    ending-within m done [] = tt
    ending-within m done (o ∷ os) = omega arith
rest-within m number s (b ∷ bs) e h = lexed-within m number s (lex (b ∷ bs)) h (omega (arith, ap length e)) (ap lex e)

gap-within : (number : Numbers) (s : LexemeState) (x : Skipped) → LeavesFewer (length s.rest) (by_gap number s x)
unfolding by_gap
gap-within number s (OpenFrom n) = omega (arith, length-drop n s.rest)
gap-within number s (Ends n) = rest-within (length s.rest) number (moved n s) (drop n s.rest) refl (omega (arith, length-drop n s.rest))

pub step-within : (number : Numbers) (s : LexemeState) → LeavesFewer (length s.rest) (step number s)
unfolding step
step-within number s = gap-within number s (skip Between 0 0 s.rest)

-- from each state the machine runs
pub runs-exist : (number : Numbers) (k : ℕ) (s : LexemeState) → length s.rest < k → (o : LexemesEnd) × Runs number s o
runs-exist number zero s h = absurd (omega arith)
runs-exist number (suc k) s h =
    by (step number s) refl (step-within number s) (λ (t : LexemeState) (w : length t.rest < length s.rest). runs-exist number k t (omega (arith, w, h)))
  where
    by : (x : LexemeStep) → step number s ≡ x → LeavesFewer (length s.rest) x
        → ((t : LexemeState) → length t.rest < length s.rest → (o : LexemesEnd) × Runs number t o) → (o : LexemesEnd) × Runs number s o
    by (over o) e w again = (o, ends s o e)
    by (next t) e w again = let r = again t w in (r.0, goes s t r.0 e r.1)

-- where a run stops, no more is left than at its begin
pub runs-left : (number : Numbers) (s : LexemeState) (p : Place) (r : Reason) (rest : Seq ℕ) → Runs number s (stopped p r rest)
    → length rest ≤ length s.rest
runs-left number s p r rest (ends t o e) = subst (LeavesFewer (length s.rest)) e (step-within number s)
runs-left number s p r rest (goes t u o e k) =
    let w : length u.rest < length s.rest = subst (LeavesFewer (length s.rest)) e (step-within number s) in
    omega (arith, w, runs-left number u p r rest k)
