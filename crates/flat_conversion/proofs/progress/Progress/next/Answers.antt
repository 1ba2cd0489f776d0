-- The binder at that place is the first of those that are left.
use Rattle.std.proofs.Common.{◌≡◌, ◌+◌, ◌∷◌, List, refl, sym, ap, ◌∙◌, drop}
use Rattle.base.specs.model.DataRest.{rest_at}
use Rattle.flat_conversion.specs.declared.variables.Binder.{Binder}
use Rattle.flat_conversion.proofs.progress.Progress.next.Goals as goal

-- of equal lists the first items are equal, and what is behind them
same_first : (x y : Binder) (xs ys : List Binder) → x ∷ xs ≡ y ∷ ys → x ≡ y
same_first x y xs ys e = cc

same_rest : (x y : Binder) (xs ys : List Binder) → x ∷ xs ≡ y ∷ ys → xs ≡ ys
same_rest x y xs ys e = cc

pub returns : goal.returns
returns c = record {
  lambdas = refl;
  so = λ x xs e.
      let table = c.args.binders.now in
      let at = c.args.self.now.binders in
      let one = c.in-Some.next.now in
      let both : one ∷ drop (at + 1) table ≡ x ∷ xs = sym (rest_at table at one c.in-Some.ensures) ∙ e in
      (same_first one x (drop (at + 1) table) xs both, ap (λ k. drop k table) c.in-Some-checked_add.ensures.1 ∙ same_rest one x (drop (at + 1) table) xs both);
}
