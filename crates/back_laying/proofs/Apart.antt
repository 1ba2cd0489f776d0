-- No two of the first ones of groups are of one group, so each number among them is that of one group alone.
use Rattle.std.proofs.Common.{◌≡◌, ℕ, zero, suc, ◌+◌, ◌<◌, Bool, true, false, List, [], ◌∷◌, ◌++◌, length, map, get_or, Some, refl, sym, ap, ◌∙◌, arith}
use Rattle.std.specs.Prelude.{◌||◌, not, slice_get, if◌then◌else◌}
use Rattle.std.specs.List.{list_any, range_with_len}
use Rattle.std.specs.Str.{bytes_eq}
use Rattle.std.proofs.lemmas.List.FromFn.{fill_by_all}
use Rattle.std.proofs.lemmas.Option.{slice_get-get_or}
use Rattle.std.proofs.lemmas.Slice.Eq.{bytes_eq-Decides}
use Rattle.lang_meaning.specs.declared.program.ProgramRows.{ProgramRows}
use Rattle.lang_meaning.specs.declared.program.GenericRow.{GenericRow}
use Rattle.lang_meaning.specs.Cells.{argument_classes, group_of, groups, one_of_each}
use Rattle.back_words.specs.Variables.{number_among}
use Rattle.back_laying.specs.declared.groups.SpecialisedArgument.{SpecialisedArgument}
use Rattle.back_laying.specs.Grouped.{IsNumbered}

or_true : (a b : Bool) → b ≡ true → (a || b) ≡ true
or_true true b h = refl
or_true false b h = h

not_both : (b : Bool) → b ≡ true → b ≡ false → ⊥
not_both true h k = absurd (cc k)
not_both false h k = absurd (cc h)

any_at : (p : ℕ → Bool) (xs : List ℕ) (k r : ℕ) → slice_get xs k ≡ Some r → p r ≡ true → list_any p xs ≡ true
any_at p [] k r e h = absurd (cc e)
any_at p (x ∷ xs) zero r e h = let is : x ≡ r = cc e in ap (λ b. b || list_any p xs) (ap p is ∙ h)
any_at p (x ∷ xs) (suc k) r e h = or_true (p x) (list_any p xs) (any_at p xs k r e h)

module _ (group : ℕ → List ℕ) where
  abbrev alike : ℕ → ℕ → Bool
  alike n d = bytes_eq (group n) (group d)

  alike_is : (n d : ℕ) → alike n d ≡ true → group n ≡ group d
  alike_is n d e = (bytes_eq-Decides (group n) (group d)).0 e

  alike_same : (n d : ℕ) → group n ≡ group d → alike n d ≡ true
  alike_same n d e = (bytes_eq-Decides (group n) (group d)).1 e

  abbrev AreApart : List ℕ → Type 0
  AreApart [] = Unit {0}
  AreApart (x ∷ xs) = (list_any (alike x) xs ≡ false) × AreApart xs

  -- none that is found is of the group of one that was seen
  none_again : (seen cs : List ℕ) (n : ℕ) → list_any (alike n) seen ≡ true → list_any (alike n) (one_of_each group seen cs) ≡ false
  none_again seen [] n h = refl
  none_again seen (c ∷ cs) n h =
      by (list_any (alike c) seen) refl (none_again (c ∷ seen) cs n (or_true (alike n c) (list_any (alike n) seen) h))
    where
      other : list_any (alike c) seen ≡ false → (b : Bool) → alike n c ≡ b → b ≡ false
      other k true e =
          let same : list_any (alike n) seen ≡ list_any (alike c) seen = ap (λ g. list_any (λ d. bytes_eq g (group d)) seen) (alike_is n c e) in
          absurd (not_both (list_any (alike n) seen) h (same ∙ k))
      other k false e = refl

      by : (b : Bool) → list_any (alike c) seen ≡ b → list_any (alike n) (one_of_each group (c ∷ seen) cs) ≡ false
          → list_any (alike n) ((if b then [] else c ∷ []) ++ one_of_each group (c ∷ seen) cs) ≡ false
      by true k later = later
      by false k later = ap (λ b. b || list_any (alike n) (one_of_each group (c ∷ seen) cs)) (other k (alike n c) refl) ∙ later

  apart : (seen cs : List ℕ) → AreApart (one_of_each group seen cs)
  apart seen [] = tt
  apart seen (c ∷ cs) = by (list_any (alike c) seen) (apart (c ∷ seen) cs)
    where
      by : (b : Bool) → AreApart (one_of_each group (c ∷ seen) cs) → AreApart ((if b then [] else c ∷ []) ++ one_of_each group (c ∷ seen) cs)
      by true h = h
      by false h = (none_again (c ∷ seen) cs c (ap (λ b. b || list_any (alike c) seen) (alike_same c c refl)), h)

  number_is : (firsts : List ℕ) (k r c : ℕ) → AreApart firsts → slice_get firsts k ≡ Some r → group r ≡ group c → number_among group firsts c ≡ k
  number_is [] k r c h e same = absurd (cc e)
  number_is (x ∷ xs) zero r c h e same =
      let is : x ≡ r = cc e in
      ap (λ b. if not b then 1 + number_among group xs c else 0) (alike_same c x (sym same ∙ ap group (sym is)))
  number_is (x ∷ xs) (suc k) r c h e same = by (alike c x) refl (number_is xs k r c h.1 e same)
    where
      by : (b : Bool) → alike c x ≡ b → number_among group xs c ≡ k → number_among group (x ∷ xs) c ≡ suc k
      by true t later =
          let again : list_any (alike x) xs ≡ true = any_at (alike x) xs k r e (alike_same x r (sym (alike_is c x t) ∙ sym same)) in
          absurd (not_both (list_any (alike x) xs) again h.0)
      by false t later =
          ap (λ b. if not b then 1 + number_among group xs c else 0) t ∙ (let more : 1 + number_among group xs c ≡ suc k = omega (arith, later) in more)

-- so the numbers that classes have are those of their groups
pub numbers_are : (program : ProgramRows) (g : GenericRow) (x : SpecialisedArgument) → IsNumbered program g x
    → x.numbers ≡ map (number_among (group_of program (argument_classes g x.argument)) (groups program g x.argument)) (range_with_len 0 (length program.classes))
numbers_are program g x h = fill_by_all number x.numbers (length program.classes) 0 h.count each
  where
    group : ℕ → List ℕ
    group = group_of program (argument_classes g x.argument)

    number : ℕ → ℕ
    number = number_among (group_of program (argument_classes g x.argument)) (groups program g x.argument)

    each : (k : ℕ) → k < length program.classes → get_or x.numbers k 0 ≡ number k
    each k within =
        let found = h.numbered.numbered k (get_or x.numbers k 0) (slice_get-get_or x.numbers k 0 (omega (arith, h.count, within))) in
        sym (number_is group (groups program g x.argument) (get_or x.numbers k 0) found.0 k
        (apart group [] (range_with_len 0 (length program.classes))) found.1 found.2)
