-- Searches in precedence lists.
use Rattle.std.proofs.Common.{◌≡◌, ◌≢◌, ◌==◌, ℕ, zero, suc, ◌+◌, ◌<◌, ◌≤◌, arith, true, false, List, [], ◌∷◌, length, drop, get_or, refl, sym, ◌∙◌, zero-add, add-one, drop-cons}
use Rattle.std.proofs.lemmas.Bool.{ne_eqb, eq-eqb}
use Rattle.eval_primitives.specs.Searching.{IsWalk, IsPast}

pub not_yet : (cs : List ℕ) (c : ℕ) → IsPast cs c 0 0
not_yet cs c = record { found = refl; passed = sym (zero-add _); all = refl }

-- the one that stands at the place
step : (cs : List ℕ) (at x : ℕ) → at < length cs → x ≡ get_or cs at x → drop at cs ≡ x ∷ drop (at + 1) cs
step cs at x h e = drop-cons cs at x h ∙ rw (add-one at, ← e) refl

pub one_more : (cs : List ℕ) (c at count x : ℕ) → IsPast cs c at count → at < length cs → x ≡ get_or cs at x → c ≢ x → IsPast cs c (at + 1) (count + 1)
one_more cs c at count x p h e ne =
    let s : drop at cs ≡ x ∷ drop (at + 1) cs = step cs at x h e in
    let test : (c == x) ≡ false = ne_eqb c x ne in
    record {
      found = p.found ∙ rw (s, test) refl;
      passed = p.passed ∙ rw (s, test) (omega arith);
      all = omega (arith, p.all);
    }

pub found_here : (cs : List ℕ) (c at count x : ℕ) → IsPast cs c at count → at < length cs → x ≡ get_or cs at x → c ≡ x → IsWalk cs c (record { found = true; passed = count + 1 })
found_here cs c at count x p h e same =
    let s : drop at cs ≡ x ∷ drop (at + 1) cs = step cs at x h e in
    let test : (c == x) ≡ true = eq-eqb c x same in
    record { found = sym (p.found ∙ rw (s, test) refl); passed = sym (p.passed ∙ rw (s, test) refl) }

pub nowhere : (cs : List ℕ) (c at count : ℕ) → IsPast cs c at count → length cs ≤ at → IsWalk cs c (record { found = false; passed = count })
nowhere cs c at count p h =
    let s : drop at cs ≡ [] = drop_all cs at h in
    record { found = sym (p.found ∙ rw s refl); passed = sym (p.passed ∙ rw s (omega arith)) }
  where
    drop_all : (cs : List ℕ) (at : ℕ) → length cs ≤ at → drop at cs ≡ []
    drop_all [] zero h = refl
    drop_all [] (suc n) h = refl
    drop_all (x ∷ xs) zero h = absurd (omega arith)
    drop_all (x ∷ xs) (suc n) h = drop_all xs n (omega arith)
