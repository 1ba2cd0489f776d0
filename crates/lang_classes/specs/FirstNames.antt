-- Names, each at its first place, with one more at their end.
use Rattle.std.proofs.Common.{◌≡◌, ◌⊎◌, inl, inr, ⊎_elim, Bool, true, false, List, [], ◌∷◌, ◌++◌, refl, sym, ap, append-nil, ◌||◌}
use Rattle.std.proofs.lemmas.Bool.{eqb-true, eq-eqb}
use Rattle.std.proofs.lemmas.List.Elements.{filter-append}
use Rattle.base.specs.declared.datum.Name.{Name}
use Rattle.lang_classes.specs.InheritedSlots.{same_name, has_name, with_name, without_name, each_first}

-- a test is true or false
pub either : (b : Bool) → (b ≡ true) ⊎ (b ≡ false)
either true = inl refl
either false = inr refl

-- names that are the same are so both ways, and a third one is as the other
pub same_name-back : (m n : Name) → same_name m n ≡ true → same_name n m ≡ true
same_name-back m n h = eq-eqb n.0 m.0 (sym (eqb-true m.0 n.0 h))

pub same_name-apart : (m n x : Name) → same_name m n ≡ false → same_name n x ≡ true → same_name m x ≡ false
same_name-apart m n x h k = let e : n.0 ≡ x.0 = eqb-true n.0 x.0 k in rw (← e) h

pub same_name-other : (m n : Name) → same_name m n ≡ false → same_name n m ≡ false
same_name-other m n h =
    ⊎_elim (λ k. let a : same_name m n ≡ true = same_name-back n m k in absurd (cc)) (λ k. k) (either (same_name n m))

-- a name that is not taken out is there as before
has-without : (m n : Name) (xs : List Name) → same_name m n ≡ false → has_name m (without_name n xs) ≡ has_name m xs
has-without m n [] h = refl
has-without m n (x ∷ xs) h =
    ⊎_elim
    (λ k. let a : same_name m x ≡ false = same_name-apart m n x h k in rw (k, a) (has-without m n xs h))
    (λ k. rw k (ap (λ b. same_name m x || b) (has-without m n xs h)))
    (either (same_name n x))

-- names, each at its first place, with one more
pub each_first-push : (ns : List Name) (m : Name) → each_first (ns ++ m ∷ []) ≡ with_name m (each_first ns)
each_first-push [] m = refl
each_first-push (n ∷ ns) m = rw (each_first-push ns m) (by (either (has_name m (each_first ns))) (either (same_name m n)))
  where
    by : (has_name m (each_first ns) ≡ true) ⊎ (has_name m (each_first ns) ≡ false) → (same_name m n ≡ true) ⊎ (same_name m n ≡ false)
        → n ∷ without_name n (with_name m (each_first ns)) ≡ with_name m (n ∷ without_name n (each_first ns))
    by (inl there) (inl same) = rw (there, same) refl
    by (inl there) (inr other) = rw (has-without m n (each_first ns) other, there, other) refl
    by (inr new) (inl same) =
        let back : same_name n m ≡ true = same_name-back m n same in
        rw (new, same, filter-append) (rw back (ap (λ xs. n ∷ xs) (append-nil (without_name n (each_first ns)))))
    by (inr new) (inr other) =
        let back : same_name n m ≡ false = same_name-other m n other in
        rw (has-without m n (each_first ns) other, new, other, filter-append) (rw back refl)
