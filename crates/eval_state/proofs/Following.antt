-- What is found from a link on, by the nearest frame that links and those behind it, for links of any kind.
use Rattle.std.proofs.Common.{◌≡◌, ℕ, suc, List, [], ◌++◌, Option, Some, None, refl, ap, sym, ◌∙◌, min}
use Rattle.std.specs.Prelude.{reverse, option_map}
use Rattle.eval_state.specs.declared.frame.ContinuationFrame.{ContinuationFrame}
use Rattle.eval_state.specs.declared.links.LinkKind.{LinkKind}
use Rattle.eval_state.specs.Chains.{Linking, chained}
use Rattle.eval_state.specs.Links.{next_of, IsNoneNearer, IsNearest}
use Rattle.eval_state.proofs.Linking.{above_reverse, Unlinked, nothing_near, near}

-- things of a kind are linked by those frames that have a link of that kind
pub record AreLinked {X : Type 0} (kind : LinkKind) (of : ContinuationFrame → Option (Linking X)) : Type 0 where
  pub next_is : (w : ContinuationFrame) → next_of kind w ≡ option_map (λ (l : Linking X). l.next) (of w)

not_linked : {X : Type 0} (kind : LinkKind) (of : ContinuationFrame → Option (Linking X)) (w : ContinuationFrame) → AreLinked kind of → next_of kind w ≡ None → of w ≡ None
not_linked {X = X} kind of w a h = by (of w) (sym (a.next_is w) ∙ h)
  where
    by : (o : Option (Linking X)) → option_map (λ (l : Linking X). l.next) o ≡ None → o ≡ None
    by None e = refl
    by (Some l) e = absurd (cc)

unlinked : {X : Type 0} (kind : LinkKind) (of : ContinuationFrame → Option (Linking X)) (items : List ContinuationFrame) (low high : ℕ) → AreLinked kind of
    → IsNoneNearer kind items low high
    → Unlinked of (reverse items) low high
unlinked kind of items low high a f = record {
  none = λ i w l h e. not_linked kind of w a (f i w l h (sym (above_reverse items i) ∙ e));
}

-- nothing is left
pub none_further : {X : Type 0} (kind : LinkKind) (of : ContinuationFrame → Option (Linking X)) (items : List ContinuationFrame) (link : ℕ) → AreLinked kind of
    → IsNoneNearer kind items 0 link
    → chained of (reverse items) link ≡ []
none_further kind of items link a f = nothing_near of (reverse items) link (unlinked kind of items 0 link a f)

-- the things of the nearest frame that links, and those behind it
pub one_further : {X : Type 0} (kind : LinkKind) (of : ContinuationFrame → Option (Linking X)) (items : List ContinuationFrame) (link behind : ℕ) (w : ContinuationFrame) (xs : List X)
    → AreLinked kind of
    → IsNearest kind items link w behind → option_map (λ (l : Linking X). l.items) (of w) ≡ Some xs
    → chained of (reverse items) link ≡ xs ++ chained of (reverse items) behind
one_further {X = X} kind of items link behind w xs a n made = by (of w) refl (sym (a.next_is w) ∙ n.links) made
  where
    by : (o : Option (Linking X)) → of w ≡ o → option_map (λ (l : Linking X). l.next) o ≡ Some n.next → option_map (λ (l : Linking X). l.items) o ≡ Some xs
        → chained of (reverse items) link ≡ xs ++ chained of (reverse items) behind
    by None is next here = absurd (cc)
    by (Some l) is next here =
        let same : l.items ≡ xs = cc in
        let on : l.next ≡ n.next = cc in
        near of (reverse items) link n.place w l (above_reverse items n.place ∙ n.there) n.below is (unlinked kind of items (suc n.place) link a n.innermost)
        ∙ ap (λ ys. ys ++ chained of (reverse items) (min l.next n.place)) same
        ∙ ap (λ m. xs ++ chained of (reverse items) m) (ap (λ m. min m n.place) on ∙ sym n.capped)

-- a frame that links has things
pub has_things : {X : Type 0} (kind : LinkKind) (of : ContinuationFrame → Option (Linking X)) (items : List ContinuationFrame) (link behind : ℕ) (w : ContinuationFrame) → AreLinked kind of
    → IsNearest kind items link w behind → option_map (λ (l : Linking X). l.items) (of w) ≡ None → ⊥
has_things {X = X} kind of items link behind w a n h = by (of w) (sym (a.next_is w) ∙ n.links) h
  where
    by : (o : Option (Linking X)) → option_map (λ (l : Linking X). l.next) o ≡ Some n.next → option_map (λ (l : Linking X). l.items) o ≡ None → ⊥
    by None e f = cc
    by (Some l) e f = cc
