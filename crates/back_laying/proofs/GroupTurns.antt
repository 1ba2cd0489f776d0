-- The groups at one argument more.
use Rattle.std.proofs.Common.{◌≡◌, ℕ, zero, suc, ◌+◌, ◌==◌, Bool, true, false, List, [], ◌∷◌, ◌++◌, length, map, sym, refl, ap, subst, ◌∙◌, arith}
use Rattle.std.specs.Prelude.{not, cond, filter, slice_get, if◌then◌else◌}
use Rattle.std.specs.List.{range_with_len}
use Rattle.std.proofs.lemmas.List.Elements.{filter-append}
use Rattle.std.proofs.lemmas.List.FromFn.{map-range_with_len_more}
use Rattle.base.specs.AllOf.{AllOf, all_both}
use Rattle.lang_meaning.specs.declared.program.ProgramRows.{ProgramRows}
use Rattle.lang_meaning.specs.declared.program.GenericRow.{GenericRow}
use Rattle.lang_meaning.specs.Cells.{groups}
use Rattle.lang_dispatch.specs.declared.groups.ArgumentGroups.{ArgumentGroups}
use Rattle.lang_dispatch.specs.GroupNumbers.{AreGroups}
use Rattle.back_laying.specs.declared.groups.GenericGroups.{GenericGroups}
use Rattle.back_laying.specs.declared.groups.SpecialisedArgument.{SpecialisedArgument}
use Rattle.back_laying.specs.Grouped.{kept_of, arguments_of, IsNumbered, AreGrouped}

arguments_both : (xs ys : List SpecialisedArgument) → arguments_of (xs ++ ys) ≡ arguments_of xs ++ arguments_of ys
arguments_both [] ys = refl
arguments_both (x ∷ xs) ys = ap (λ l. x.argument ∷ l) (arguments_both xs ys)

counted_more : (a n j : ℕ) → a + n ≡ j → range_with_len a (suc n) ≡ range_with_len a n ++ j ∷ []
counted_more a zero j e = let same : a ≡ j = omega arith in ap (λ k. k ∷ []) same
counted_more a (suc n) j e = ap (λ l. a ∷ l) (counted_more (a + 1) n j (omega arith))

one_more : (n : ℕ) → range_with_len 0 (n + 1) ≡ range_with_len 0 n ++ n ∷ []
one_more n = let next : n + 1 ≡ suc n = omega arith in ap (range_with_len 0) next ∙ counted_more 0 n n (omega arith)

module _ (program : ProgramRows) (g : GenericRow) (at : ℕ) (found : ArgumentGroups) (groups_found : AreGroups program g at found) where
  abbrev this : SpecialisedArgument
  this = record { argument = at; numbers = found.numbers }

  same_count : (length found.firsts == 1) ≡ (length (groups program g at) == 1)
  same_count = ap (λ l. length l == 1) groups_found.firsts

  kept_argument : arguments_of (kept_of at found) ≡ filter (λ i. not (length (groups program g i) == 1)) (at ∷ [])
  kept_argument = by (length found.firsts == 1) ∙ ap (λ b. cond (not b) (at ∷ []) []) same_count
    where
      by : (b : Bool) → arguments_of (if b then [] else this ∷ []) ≡ cond (not b) (at ∷ []) []
      by true = refl
      by false = refl

  this_numbered : IsNumbered program g this
  this_numbered = record {
    count = groups_found.count;
    numbered = record { numbered = λ c k here. (let n = groups_found.numbers.numbered c k here in (n.0, ap (λ l. slice_get l k) (sym groups_found.firsts) ∙ n.1, n.2)) };
  }

  kept_numbered : AllOf (IsNumbered program g) (kept_of at found)
  kept_numbered = by (length found.firsts == 1)
    where
      by : (b : Bool) → AllOf (IsNumbered program g) (if b then [] else this ∷ [])
      by true = tt
      by false = (this_numbered, tt)

  pub grouped_more : (old new : GenericGroups) → new.firsts ≡ old.firsts ++ found.firsts ∷ [] → new.specialised ≡ old.specialised ++ kept_of at found
      → AreGrouped program g at old → AreGrouped program g (at + 1) new
  grouped_more old new a b h = record {
    firsts =
        a ∙ ap (λ l. l ++ found.firsts ∷ []) h.firsts ∙ ap (λ l. map (groups program g) (range_with_len 0 at) ++ l ∷ []) groups_found.firsts
        ∙ sym (map-range_with_len_more (groups program g) 0 at at (omega arith));
    specialised =
        ap arguments_of b ∙ arguments_both old.specialised (kept_of at found)
        ∙ ap (λ l. l ++ arguments_of (kept_of at found)) h.specialised
        ∙ ap (λ l. filter kept (range_with_len 0 at) ++ l) kept_argument
        ∙ sym (filter-append kept (range_with_len 0 at) (at ∷ []))
        ∙ ap (filter kept) (sym (one_more at));
    numbered = subst (AllOf (IsNumbered program g)) (sym b) (all_both (IsNumbered program g) old.specialised (kept_of at found) h.numbered kept_numbered);
  }
    where
      kept : ℕ → Bool
      kept i = not (length (groups program g i) == 1)
