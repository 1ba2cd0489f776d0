-- The first one of each group, one after another: what was seen has the groups of those that were kept.
use Rattle.std.proofs.Common.{◌≡◌, ◌≤◌, ℕ, suc, ◌+◌, ◌==◌, Bool, true, false, List, [], ◌∷◌, ◌++◌, length, drop, Some, refl, sym, ap, subst, ◌∙◌, append_assoc, append-nil, arith}
use Rattle.std.specs.Prelude.{◌||◌, not, slice_get, if◌then◌else◌}
use Rattle.std.specs.List.{list_any}
use Rattle.std.specs.Str.{bytes_eq}
use Rattle.std.proofs.lemmas.Bool.Decides.{nat_tests}
use Rattle.std.proofs.lemmas.List.{drop_all}
use Rattle.std.proofs.lemmas.Slice.Eq.{bytes_eq-Decides}
use Rattle.base.specs.model.DataRest.{rest_at}
use Rattle.lang_meaning.specs.Cells.{one_of_each}
use Rattle.back_words.specs.Variables.{number_among}
use Rattle.back_laying.specs.Kept.{IsKept}

module _ (group : ℕ → List ℕ) where
  abbrev alike : ℕ → ℕ → Bool
  alike n d = bytes_eq (group n) (group d)

  -- whether one of the group is there, told by its number
  told : (firsts : List ℕ) (n : ℕ) (b : Bool) → (number_among group firsts n == length firsts) ≡ b → list_any (alike n) firsts ≡ not b
  told [] n true e = refl
  told [] n false e = absurd (cc e)
  told (x ∷ xs) n b e = by (alike n x) e (λ later. told xs n b later)
    where
      number : ℕ
      number = number_among group xs n

      by : (c : Bool) → ((if not c then 1 + number_among group xs n else 0) == suc (length xs)) ≡ b
          → ((number_among group xs n == length xs) ≡ b → list_any (alike n) xs ≡ not b) → (c || list_any (alike n) xs) ≡ not b
      by true k more = no_more b k
        where
          no_more : (b : Bool) → (0 == suc (length xs)) ≡ b → true ≡ not b
          no_more true h = absurd (let same : 0 ≡ suc (length xs) = grind (arith, nat_tests) in omega (arith, same))
          no_more false h = refl
      by false k more =
          more (let same : (number_among group xs n == length xs) ≡ (1 + number_among group xs n == suc (length xs)) = grind (arith, nat_tests) in same ∙ k)

  any_more : (n c : ℕ) (xs : List ℕ) → list_any (alike n) (xs ++ c ∷ []) ≡ (alike n c || list_any (alike n) xs)
  any_more n c [] = refl
  any_more n c (x ∷ xs) = ap (λ b. alike n x || b) (any_more n c xs) ∙ swapped (alike n x) (alike n c) (list_any (alike n) xs)
    where
      swapped : (a b d : Bool) → (a || (b || d)) ≡ (b || (a || d))
      swapped true true d = refl
      swapped true false d = refl
      swapped false b d = refl

  -- so far
  pub record Firsts (used firsts : List ℕ) (at : ℕ) : Type 0 where
    pub seen : List ℕ
    pub same : (n : ℕ) → list_any (alike n) seen ≡ list_any (alike n) firsts
    pub left : firsts ++ one_of_each group seen (drop at used) ≡ one_of_each group [] used

  pub none_seen : (used : List ℕ) → Firsts used [] 0
  none_seen used = record { seen = []; same = λ n. refl; left = refl }

  next : (used seen : List ℕ) (at c : ℕ) → slice_get used at ≡ Some c
      → one_of_each group seen (drop at used)
      ≡ (if list_any (alike c) seen then [] else c ∷ []) ++ one_of_each group (c ∷ seen) (drop (at + 1) used)
  next used seen at c e = ap (one_of_each group seen) (rest_at used at c e)

  -- one that is there already is passed
  first_passed : (used firsts : List ℕ) (at c : ℕ) → slice_get used at ≡ Some c → (number_among group firsts c == length firsts) ≡ false
      → Firsts used firsts at → Firsts used firsts (at + 1)
  first_passed used firsts at c e old h = record {
    seen = c ∷ h.seen;
    same = λ n. still n (alike n c) refl;
    left =
        ap (λ b. firsts ++ ((if b then [] else c ∷ []) ++ one_of_each group (c ∷ h.seen) (drop (at + 1) used))) (sym there)
        ∙ ap (λ l. firsts ++ l) (sym (next used h.seen at c e)) ∙ h.left;
  }
    where
      among : list_any (alike c) firsts ≡ true
      among = told firsts c false old

      there : list_any (alike c) h.seen ≡ true
      there = h.same c ∙ among

      still : (n : ℕ) (b : Bool) → alike n c ≡ b → (alike n c || list_any (alike n) h.seen) ≡ list_any (alike n) firsts
      still n true k =
          let groups : group n ≡ group c = (bytes_eq-Decides (group n) (group c)).0 k in
          let found : list_any (alike n) firsts ≡ true = ap (λ g. list_any (λ d. bytes_eq g (group d)) firsts) groups ∙ among in
          ap (λ b. b || list_any (alike n) h.seen) k ∙ sym found
      still n false k = ap (λ b. b || list_any (alike n) h.seen) k ∙ h.same n

  -- and a new one is kept
  first_kept : (used firsts more : List ℕ) (at c : ℕ) → slice_get used at ≡ Some c → (number_among group firsts c == length firsts) ≡ true
      → more ≡ firsts ++ c ∷ [] → Firsts used firsts at → Firsts used more (at + 1)
  first_kept used firsts more at c e new pushed h = record {
    seen = c ∷ h.seen;
    same = λ n. ap (λ b. alike n c || b) (h.same n) ∙ sym (any_more n c firsts) ∙ ap (list_any (alike n)) (sym pushed);
    left =
        ap (λ l. l ++ one_of_each group (c ∷ h.seen) (drop (at + 1) used)) pushed
        ∙ append_assoc firsts (c ∷ []) (one_of_each group (c ∷ h.seen) (drop (at + 1) used))
        ∙ ap (λ b. firsts ++ ((if b then [] else c ∷ []) ++ one_of_each group (c ∷ h.seen) (drop (at + 1) used))) (sym absent)
        ∙ ap (λ l. firsts ++ l) (sym (next used h.seen at c e)) ∙ h.left;
  }
    where
      absent : list_any (alike c) h.seen ≡ false
      absent = h.same c ∙ told firsts c true new

  pub one_taken : (used firsts more : List ℕ) (at c : ℕ) → slice_get used at ≡ Some c → IsKept group firsts c more → Firsts used firsts at
      → Firsts used more (at + 1)
  one_taken used firsts more at c e kept h = by (number_among group firsts c == length firsts) refl kept
    where
      by : (b : Bool) → (number_among group firsts c == length firsts) ≡ b → more ≡ (if b then firsts ++ c ∷ [] else firsts) → Firsts used more (at + 1)
      by true test same = first_kept used firsts more at c e test same h
      by false test same = subst (λ l. Firsts used l (at + 1)) (sym same) (first_passed used firsts at c e test h)

  pub firsts_all : (used firsts : List ℕ) (at : ℕ) → length used ≤ at → Firsts used firsts at → firsts ≡ one_of_each group [] used
  firsts_all used firsts at past h =
      sym (append-nil firsts) ∙ ap (λ xs. firsts ++ one_of_each group h.seen xs) (sym (drop_all at used past)) ∙ h.left
