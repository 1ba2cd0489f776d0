-- Names that are found in a map: one more, and the last one less.
use Rattle.std.proofs.Common.{◌≡◌, ℕ, suc, ◌+◌, Bool, true, false, List, [], ◌∷◌, ◌++◌, Some, take, drop, length, refl, sym, ap, subst, ◌∙◌, arith}
use Rattle.std.specs.Prelude.{slice_get, reverse, IsSome, cond}
use Rattle.std.specs.declared.cmp.Ordering.{Ordering}
use Rattle.std.specs.declared.cmp.Ordering.TheVariants.{Equal}
use Rattle.std.specs.Ordering.{is_eq}
use Rattle.std.specs.Cmp.{IsTotalOrder, Equal-is, eq_by_cmp_equiv}
use Rattle.std.specs.Map.{lookup}
use Rattle.std.specs.BTreeMap.{BTreeMap, get, is_at, Updates, UpdatesBy, IsUnchanged}
use Rattle.std.proofs.lemmas.List.{reverse-append, length-reverse, take_all, take-append-le}
use Rattle.base.specs.model.DataRest.{take_at}
use Rattle.base.specs.declared.name_map.Entry.{Entry}
use Rattle.base.specs.NameMap.{bound, AreFound}

-- entries as a list
module _ {K X : Type 0} where
  -- a list with one more, from its end
  turned : (xs ys : List (Entry K X)) (e : Entry K X) → ys ≡ xs ++ e ∷ [] → reverse ys ≡ e ∷ reverse xs
  turned xs ys e h = ap reverse h ∙ reverse-append xs (e ∷ [])

  -- what names stand for then
  pub push_bound : (xs ys : List (Entry K X)) (e : Entry K X) → ys ≡ xs ++ e ∷ [] → bound (reverse ys) ≡ (e.name, e.what) ∷ bound (reverse xs)
  push_bound xs ys e is = ap bound (turned xs ys e is)

  -- a list of which the last one is known, from its end
  last_turned : (xs : List (Entry K X)) (at : ℕ) (e : Entry K X) → at + 1 ≡ length xs → slice_get xs at ≡ Some e → reverse xs ≡ e ∷ reverse (take at xs)
  last_turned xs at e last h =
      ap reverse (sym (take_all (at + 1) xs (omega (arith, last))) ∙ take_at xs at e h) ∙ reverse-append (take at xs) (e ∷ [])

  -- what names stand for without it
  pub pop_bound : (xs ys : List (Entry K X)) (at : ℕ) (e : Entry K X) → at + 1 ≡ length xs → slice_get xs at ≡ Some e → ys ≡ take at xs
      → bound (reverse ys) ≡ drop 1 (bound (reverse xs))
  pop_bound xs ys at e last h is =
      ap (λ zs. bound (reverse zs)) is ∙ sym (ap (λ es. drop 1 (bound es)) (last_turned xs at e last h))

  -- a name each entry
  length_bound : (es : List (Entry K X)) → length (bound es) ≡ length es
  length_bound [] = refl
  length_bound (e ∷ es) = ap suc (length_bound es)

  -- as many names as entries
  pub as_many : (xs : List (Entry K X)) → length (bound (reverse xs)) ≡ length xs
  as_many xs = length_bound (reverse xs) ∙ length-reverse xs

  -- one more is taken away again
  cut_again : (xs ys zs : List (Entry K X)) (e : Entry K X) (count : ℕ) → count ≡ length xs → ys ≡ xs ++ e ∷ [] → zs ≡ take count ys → zs ≡ xs
  cut_again xs ys zs e count n is cut =
      cut ∙ ap (take count) is ∙ take-append-le count xs (e ∷ []) (omega (arith, n)) ∙ take_all count xs (omega (arith, n))

  pub again_bound : (xs ys zs : List (Entry K X)) (e : Entry K X) (count : ℕ) → count ≡ length xs → ys ≡ xs ++ e ∷ [] → zs ≡ take count ys
      → bound (reverse zs) ≡ bound (reverse xs)
  again_bound xs ys zs e count n is cut = ap (λ vs. bound (reverse vs)) (cut_again xs ys zs e count n is cut)

-- and what is found in the map
module _ {K X : Type 0} (cmp : K → K → Ordering) (order : IsTotalOrder cmp) where
  -- names that are not told apart stand for the same
  same_lookup : (a b : K) → cmp a b ≡ Equal → (ps : List (K × X)) → lookup (is_at (cmp b)) ps ≡ lookup (is_at (cmp a)) ps
  same_lookup a b e [] = refl
  same_lookup a b e (p ∷ ps) =
      ap (λ r. cond (is_eq r) (Some p.1) (lookup (is_at (cmp b)) ps)) (sym (order.congr a b p.0 e))
      ∙ ap (cond (is_eq (cmp a p.0)) (Some p.1)) (same_lookup a b e ps)

  -- a name more
  more_found : (es : List (Entry K X)) (found now : BTreeMap K X) (e : Entry K X) → AreFound cmp es found → e.before ≡ lookup (is_at (cmp e.name)) (bound es)
      → Updates cmp found now e.name (Some e.what) → AreFound cmp (e ∷ es) now
  more_found es found now e x h u = record {
    before = (h, x.before);
    found = λ q. u.0 q ∙ ap (λ b. cond b (Some e.what) (get cmp found q)) ((eq_by_cmp_equiv order).symm e.name q)
        ∙ ap (cond (is_eq (cmp q e.name)) (Some e.what)) (x.found q);
  }

  -- the same where entries are put at the end
  pub push_found : (xs ys : List (Entry K X)) (found now : BTreeMap K X) (e : Entry K X) → AreFound cmp (reverse xs) found
      → e.before ≡ lookup (is_at (cmp e.name)) (bound (reverse xs))
      → Updates cmp found now e.name (Some e.what) → ys ≡ xs ++ e ∷ [] → AreFound cmp (reverse ys) now
  push_found xs ys found now e x h u is =
      subst (λ es. AreFound cmp es now) (sym (turned xs ys e is)) (more_found (reverse xs) found now e x h u)

  -- the last one less
  less_found : (es : List (Entry K X)) (found now : BTreeMap K X) (e : Entry K X) → AreFound cmp (e ∷ es) found
      → UpdatesBy cmp (cmp e.name) found now e.before → AreFound cmp es now
  less_found es found now e x u = record {
    before = x.before.1;
    found = λ q. u.0 q ∙ ap (λ b. cond b e.before (get cmp found q)) ((eq_by_cmp_equiv order).symm e.name q)
        ∙ ap (cond (is_eq (cmp q e.name)) e.before) (x.found q) ∙ back q (is_eq (cmp q e.name)) refl;
  }
    where
      back : (q : K) (b : Bool) → is_eq (cmp q e.name) ≡ b
          → cond b e.before (cond b (Some e.what) (lookup (is_at (cmp q)) (bound es))) ≡ lookup (is_at (cmp q)) (bound es)
      back q true t = x.before.0 ∙ same_lookup q e.name ((Equal-is (cmp q e.name)).0 t) (bound es)
      back q false t = refl

  -- the last entry is cut, and its name stands for what it did before
  pub pop_found : (xs ys : List (Entry K X)) (found now : BTreeMap K X) (at : ℕ) (e : Entry K X) → AreFound cmp (reverse xs) found
      → at + 1 ≡ length xs → slice_get xs at ≡ Some e → UpdatesBy cmp (cmp e.name) found now e.before → ys ≡ take at xs → AreFound cmp (reverse ys) now
  pop_found xs ys found now at e x last h u is =
      subst (λ zs. AreFound cmp (reverse zs) now) (sym is)
      (less_found (reverse (take at xs)) found now e (subst (λ es. AreFound cmp es found) (last_turned xs at e last h) x) u)

  -- the last name stands for something
  pub last_there : (xs : List (Entry K X)) (found : BTreeMap K X) (at : ℕ) (e : Entry K X) → AreFound cmp (reverse xs) found
      → at + 1 ≡ length xs → slice_get xs at ≡ Some e → IsSome (get cmp found e.name)
  last_there xs found at e x last h =
      let is : get cmp found e.name ≡ Some e.what =
      x.found e.name ∙ ap (λ es. lookup (is_at (cmp e.name)) (bound es)) (last_turned xs at e last h)
      ∙ ap (λ b. cond b (Some e.what) (lookup (is_at (cmp e.name)) (bound (reverse (take at xs))))) ((eq_by_cmp_equiv order).refl e.name) in
      subst IsSome (sym is) refl

  -- where there was no memory for a name more, each is found as before
  pub again_found : (xs ys zs : List (Entry K X)) (found now : BTreeMap K X) (e : Entry K X) (count : ℕ) → AreFound cmp (reverse xs) found
      → count ≡ length xs → ys ≡ xs ++ e ∷ [] → zs ≡ take count ys → IsUnchanged found now → AreFound cmp (reverse zs) now
  again_found xs ys zs found now e count x n is cut same =
      subst (λ vs. AreFound cmp (reverse vs) now) (sym (cut_again xs ys zs e count n is cut))
      (record { before = x.before; found = λ q. ap (lookup (is_at (cmp q))) same ∙ x.found q })
