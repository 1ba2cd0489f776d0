-- Where words are unlimited and levels are enough, what an application gives is a value.
use Rattle.std.proofs.Common.{◌≡◌, ◌≤◌, ◌<◌, ℕ, true, List, ◌++◌, refl, arith}
use Rattle.lang_meaning.specs.Values.{Value}
use Rattle.lang_meaning.specs.Objects.{Object}
use Rattle.lang_meaning.specs.State.{State, Evaluated, Outcome, value, exit, full, more, unlimited}
use Rattle.lang_library_laws.specs.Applications.{KeepsPrinting, EndsAs, Ends, IsLimited, IsBegun}
use Rattle.lang_library_laws.specs.Laws.{LawOfEnough, LawOfAllPrinted}

has_value : (May : List ℕ → Type 0) (printed : List ℕ) (kept : List Object) (levels enough : ℕ) (z : State) (Q : Value → List Object → Type 0) (r : Evaluated)
    → Ends (λ after. IsLimited unlimited × KeepsPrinting May kept z after) (λ after. (levels < enough) × KeepsPrinting May kept z after)
    (λ v after. KeepsPrinting (λ text. text ≡ printed) kept z after × Q v after.store) r → enough ≤ levels
    → (v : Value) × (r.outcome ≡ value v) × KeepsPrinting (λ text. text ≡ printed) kept z r.state × Q v r.state.store
has_value May printed kept levels enough z Q r g e = by r.outcome g
  where
    by : (o : Outcome)
        → EndsAs (λ after. IsLimited unlimited × KeepsPrinting May kept z after) (λ after. (levels < enough) × KeepsPrinting May kept z after)
        (λ v after. KeepsPrinting (λ text. text ≡ printed) kept z after × Q v after.store) o r.state
        → (v : Value) × (o ≡ value v) × KeepsPrinting (λ text. text ≡ printed) kept z r.state × Q v r.state.store
    by (value v) h = (v, refl, h.0, h.1)
    by (exit x v landing) h = absurd h
    by (full asked left) h = absurd h.0
    by more h = absurd (omega (arith, h.0, e))

pub law_of_enough : LawOfEnough
law_of_enough kept levels enough z holds r g e =
    has_value (λ text. text ≡ z.printed) z.printed kept levels enough z (λ v store. holds v store ≡ true) r g e

pub law_of_all_printed : LawOfAllPrinted
law_of_all_printed kept levels enough z whole r g e =
    let all : (v : Value) × (r.outcome ≡ value v) × KeepsPrinting (λ text. text ≡ z.printed ++ whole) kept z r.state × Unit {0} =
    has_value (IsBegun z.printed whole) (z.printed ++ whole) kept levels enough z (λ v store. Unit {0}) r g e in
    (all.0, all.1, all.2)
