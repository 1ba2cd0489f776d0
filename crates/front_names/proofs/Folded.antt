-- The test of a form as code makes it: of its own names, and of the forms right inside.
use Rattle.std.proofs.Common.{◌≡◌, ℕ, Bool, true, false, ◌&&◌, List, [], ◌∷◌, refl, sym, ap, ◌∙◌, nat_lt}
use Rattle.std.specs.List.{list_all}
use Rattle.lang_meaning.specs.declared.core_form.DynBinding.{DynBinding}
use Rattle.lang_meaning.specs.model.View.{dynamics_of}
use Rattle.lang_meaning.specs.Form.{Form}
use Rattle.lang_meaning.specs.Subforms.{outer, inner}
use Rattle.lang_meaning.specs.bridge.Judged.{all_inside}
use Rattle.front_profile.specs.ProgramNames.{names_bound}
use Rattle.front_names.specs.Tests.{are_own_below, is_form_below}

and_true : (b : Bool) → (b && true) ≡ b
and_true true = refl
and_true false = refl

and_assoc : (a b c : Bool) → (a && (b && c)) ≡ ((a && b) && c)
and_assoc true b c = refl
and_assoc false b c = refl

pub one_below : (count n : ℕ) → list_all (λ m. nat_lt m count) (n ∷ []) ≡ nat_lt n count
one_below count n = and_true (nat_lt n count)

pub bound_below : (count : ℕ) (bs : List DynBinding)
    → list_all (λ n. nat_lt n count) (names_bound (dynamics_of bs))
    ≡ list_all (λ (b : DynBinding). nat_lt b.name.0 count) bs
bound_below count [] = refl
bound_below count (b ∷ bs) = ap (λ t. nat_lt b.name.0 count && t) (bound_below count bs)

module _ (count : ℕ) where
  abbrev are_below : List Form → Bool
  are_below fs = list_all (is_form_below count) fs

  form_folded : (f : Form)
      → (are_own_below count f && (are_below (outer f) && are_below (inner f))) ≡ is_form_below count f
  form_folded f =
      and_assoc (are_own_below count f) (are_below (outer f)) (are_below (inner f))
      ∙ sym (all_inside (are_own_below count) f)

  pub form_from : (f : Form) (own of_outs of_ins result : Bool) (outs ins : List Form) → outs ≡ outer f → ins ≡ inner f
      → own ≡ are_own_below count f → of_outs ≡ list_all (is_form_below count) outs
      → of_ins ≡ list_all (is_form_below count) ins
      → result ≡ (own && (of_outs && of_ins)) → result ≡ is_form_below count f
  form_from f own of_outs of_ins result outs ins o i is_own are_outs are_ins is =
      is
      ∙ ap (λ b. b && (of_outs && of_ins)) is_own
      ∙ ap (λ b. are_own_below count f && (b && of_ins)) (are_outs ∙ ap are_below o)
      ∙ ap (λ b. are_own_below count f && (are_below (outer f) && b)) (are_ins ∙ ap are_below i)
      ∙ form_folded f
