-- Where a method applies, argument by argument, and what a turn over methods counts.
use Rattle.std.proofs.Common.{◌≡◌, ℕ, ◌+◌, Bool, true, false, ◌&&◌, List, [], ◌∷◌, Some, length, filter, drop, slice_get, if◌then◌else◌, ◌≤◌, ◌==◌, refl, ap, arith}
use Rattle.lang_meaning.specs.declared.program.ProgramRows.{ProgramRows}
use Rattle.lang_meaning.specs.declared.program.MethodRow.{MethodRow}
use Rattle.lang_meaning.specs.declared.program.Qualifier.TheVariants.{Primary}
use Rattle.lang_meaning.specs.Classes.{is_below, applies, is_qualifier}
use Rattle.std.proofs.lemmas.List.{drop_all}
use Rattle.base.specs.model.DataRest.{rest_at}
use Rattle.lang_dispatch.proofs.ChainCounts.{count_of, size_of}

-- a method of another number of arguments does not apply
pub differ_length : (program : ProgramRows) (cs ms : List ℕ) → (length cs ≡ length ms → ⊥) → applies program cs ms ≡ false
differ_length program [] [] h = absurd (h refl)
differ_length program [] (m ∷ ms) h = refl
differ_length program (c ∷ cs) [] h = refl
differ_length program (c ∷ cs) (m ∷ ms) h =
    let rest : applies program cs ms ≡ false = differ_length program cs ms (λ e. h (let t : length (c ∷ cs) ≡ length (m ∷ ms) = omega arith in t)) in
    either_false (is_below program c m) (applies program cs ms) rest
  where
    either_false : (a b : Bool) → b ≡ false → (a && b) ≡ false
    either_false true b e = e
    either_false false b e = refl

pub not_here : (program : ProgramRows) (cs ms : List ℕ) (i c m : ℕ) → slice_get cs i ≡ Some c → slice_get ms i ≡ Some m → is_below program c m ≡ false
    → applies program (drop i cs) (drop i ms) ≡ false
not_here program cs ms i c m h k b = rw (rest_at cs i c h, rest_at ms i m k, b) refl

pub applies_here : (program : ProgramRows) (cs ms : List ℕ) (i c m : ℕ) → slice_get cs i ≡ Some c → slice_get ms i ≡ Some m → is_below program c m ≡ true
    → applies program (drop (i + 1) cs) (drop (i + 1) ms) ≡ applies program (drop i cs) (drop i ms)
applies_here program cs ms i c m h k b = rw (rest_at cs i c h, rest_at ms i m k, b) refl

-- a method that applies, and one that does not
pub found_turn : (p : MethodRow → Bool) (ms : List MethodRow) (i : ℕ) (m : MethodRow) → slice_get ms i ≡ Some m → p m ≡ true
    → (length (filter p (drop i ms)) ≡ 1 + length (filter p (drop (i + 1) ms)))
    × (count_of Primary (filter p (drop i ms)) ≡ (if is_qualifier Primary m.qualifier then 1 else 0) + count_of Primary (filter p (drop (i + 1) ms)))
found_turn p ms i m h k = rw (rest_at ms i m h, k) (omega arith, refl)

pub pass_turn : (p : MethodRow → Bool) (ms : List MethodRow) (i : ℕ) (m : MethodRow) → slice_get ms i ≡ Some m → p m ≡ false
    → filter p (drop i ms) ≡ filter p (drop (i + 1) ms)
pass_turn p ms i m h k = rw (rest_at ms i m h, k) refl

-- a primary method counts one
pub at_most_one : (b : Bool) → (if b then 1 else 0) ≤ 1
at_most_one true = omega arith
at_most_one false = omega arith

-- at the end of the methods all are counted
pub counted_all : (p : MethodRow → Bool) (ms : List MethodRow) (i found primary : ℕ) → length ms ≤ i
    → found + length (filter p (drop i ms)) ≡ length (filter p ms)
    → primary + count_of Primary (filter p (drop i ms)) ≡ count_of Primary (filter p ms)
    → (if primary == 0 then 0 else found) ≡ size_of (filter p ms)
counted_all p ms i found primary h a b =
    let none : filter p (drop i ms) ≡ [] = rw (drop_all i ms h) refl in
    let all : found ≡ length (filter p ms) = omega (arith, a, ap length none) in
    let some : primary ≡ count_of Primary (filter p ms) = omega (arith, b, ap (count_of Primary) none) in
    rw (all, some) refl
