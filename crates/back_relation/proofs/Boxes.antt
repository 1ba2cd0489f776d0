-- Boxes of which only those on the stack that stands are left: which they are.
use Rattle.std.proofs.Common.{◌≡◌, ℕ, zero, suc, ◌≤◌, Bool, true, false, List, [], ◌∷◌, length, Some, refl, ap, ◌∙◌, arith}
use Rattle.std.specs.Prelude.{slice_get, nat_le, if◌then◌else◌}
use Rattle.std.proofs.lemmas.Bool.Decides.{nat_tests}
use Rattle.std.proofs.lemmas.Bool.{le-leb}
use Rattle.back_relation.specs.Worlds.{BoxPlace, on_heap, on_stack, gone}
use Rattle.back_relation.specs.Cuts.{box_cut, boxes_cut}

pub cut_count : (from : ℕ) (cs : List BoxPlace) → length (boxes_cut from cs) ≡ length cs
cut_count from [] = refl
cut_count from (c ∷ cs) = omega (arith, cut_count from cs)

-- a box in the heap was there
pub heap_was : (from i a : ℕ) (cs : List BoxPlace) → slice_get (boxes_cut from cs) i ≡ Some (on_heap a) → slice_get cs i ≡ Some (on_heap a)
heap_was from i a [] e = absurd (cc e)
heap_was from zero a (on_heap b ∷ cs) e = e
heap_was from zero a (on_stack b ∷ cs) e = by (nat_le from b) e
  where
    by : (t : Bool) → Some (if t then on_stack b else gone) ≡ Some (on_heap a) → Some (on_stack b) ≡ Some (on_heap a)
    by true e = e
    by false e = absurd (cc e)
heap_was from zero a (gone ∷ cs) e = e
heap_was from (suc i) a (c ∷ cs) e = heap_was from i a cs e

-- a binding that is left stands on the stack
pub stack_above : (from i a : ℕ) (cs : List BoxPlace) → slice_get (boxes_cut from cs) i ≡ Some (on_stack a) → from ≤ a
stack_above from i a [] e = absurd (cc e)
stack_above from zero a (on_heap b ∷ cs) e = absurd (cc e)
stack_above from zero a (on_stack b ∷ cs) e = by (nat_le from b) refl e
  where
    by : (t : Bool) → nat_le from b ≡ t → Some (if t then on_stack b else gone) ≡ Some (on_stack a) → from ≤ a
    by true same e = let it : b ≡ a = cc e in let low : from ≤ b = grind (arith, nat_tests) in omega (arith, it, low)
    by false same e = absurd (cc e)
stack_above from zero a (gone ∷ cs) e = absurd (cc e)
stack_above from (suc i) a (c ∷ cs) e = stack_above from i a cs e

-- and one there is left
pub stack_stays : (from i a : ℕ) (cs : List BoxPlace) → slice_get cs i ≡ Some (on_stack a) → from ≤ a → slice_get (boxes_cut from cs) i ≡ Some (on_stack a)
stack_stays from i a [] e low = absurd (cc e)
stack_stays from zero a (c ∷ cs) e low =
    let same : c ≡ on_stack a = cc e in
    ap (λ x. Some (box_cut from x)) same ∙ ap (λ t. Some (if t then on_stack a else gone)) (le-leb from a low)
stack_stays from (suc i) a (c ∷ cs) e low = stack_stays from i a cs e low
