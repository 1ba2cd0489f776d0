-- The search for the innermost frame that links.
use Rattle.std.proofs.Common.{◌≡◌, ℕ, ◌-◌, ◌<◌, ◌≤◌, List, Some, None, refl, ap, sym, ◌∙◌, length, get_or, min, arith, ⊎_elim}
use Rattle.std.proofs.lemmas.Bool.{cases_lt}
use Rattle.std.proofs.lemmas.Option.{slice_get_read, slice_get_past}
use Rattle.std.specs.Prelude.{slice_get}
use Rattle.eval_state.specs.declared.frame.ContinuationFrame.{ContinuationFrame}
use Rattle.eval_state.specs.declared.links.LinkKind.{LinkKind}
use Rattle.eval_state.specs.Links.{next_of, IsNoneNearer, IsNearest}

-- the frames from one on were searched
pub record IsSearched (kind : LinkKind) (items : List ContinuationFrame) (left link : ℕ) : Type 0 where
  pub inside : left ≤ length items
  pub below : left ≤ link
  pub none : IsNoneNearer kind items left link

pub none_yet : (kind : LinkKind) (items : List ContinuationFrame) (count left link : ℕ) → count ≡ length items → left ≡ min link count → IsSearched kind items left link
none_yet kind items count left link e m = record {
  inside = omega arith;
  below = omega arith;
  none = λ i w low high there. ⊎_elim (λ (h : i < count). absurd (omega arith)) (λ (h : count ≤ i). absurd (cc (slice_get_past items i (omega arith)))) (cases_lt i count);
}

-- the frame below those that were searched
read : (items : List ContinuationFrame) (left : ℕ) (w x : ContinuationFrame) → 0 < left → left ≤ length items → x ≡ get_or items (left - 1) x → slice_get items (left - 1) ≡ Some w → w ≡ x
read items left w x pos inside is there = cc (slice_get_read items (length items) (left - 1) x refl (omega arith) is)

pub found : (kind : LinkKind) (items : List ContinuationFrame) (left link behind capped : ℕ) (x : ContinuationFrame) → 0 < left → x ≡ get_or items (left - 1) x
    → Some behind ≡ next_of kind x → capped ≡ min behind (left - 1) → IsSearched kind items left link → IsNearest kind items link x capped
found kind items left link behind capped x pos is links cap s = record {
  place = left - 1;
  there = let inside : left ≤ length items = s.inside in slice_get_read items (length items) (left - 1) x refl (omega arith) is;
  below = let b : left ≤ link = s.below in omega arith;
  next = behind;
  links = sym links;
  capped = cap;
  innermost = λ i w low high there. s.none i w (omega arith) high there;
}

pub one_more : (kind : LinkKind) (items : List ContinuationFrame) (left link : ℕ) (x : ContinuationFrame) → 0 < left → x ≡ get_or items (left - 1) x
    → None ≡ next_of kind x → IsSearched kind items left link → IsSearched kind items (left - 1) link
one_more kind items left link x pos is unlinked s = record {
  inside = let inside : left ≤ length items = s.inside in omega arith;
  below = let b : left ≤ link = s.below in omega arith;
  none = λ i w low high there. ⊎_elim
      (λ (h : i < left).
      let e : i ≡ left - 1 = omega arith in
      ap (next_of kind) (read items left w x pos s.inside is (ap (slice_get items) (sym e) ∙ there)) ∙ sym unlinked)
      (λ (h : left ≤ i). s.none i w h high there)
      (cases_lt i left);
}

pub all_searched : (kind : LinkKind) (items : List ContinuationFrame) (left link : ℕ) → left ≡ 0 → IsSearched kind items left link → IsNoneNearer kind items 0 link
all_searched kind items left link e s i w low high there = s.none i w (omega arith) high there
