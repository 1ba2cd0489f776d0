-- Which arguments are asked, and what is known of them.
use Rattle.std.proofs.Common.{◌≡◌, ℕ, zero, suc, ◌+◌, ◌<◌, ◌≤◌, List, [], ◌∷◌, ◌++◌, Option, Some, None, length, drop, slice_get, refl, ap, sym, ◌∙◌, append_assoc, add-one, arith}
use Rattle.std.proofs.lemmas.List.{append-nil}
use Rattle.lang_meaning.specs.declared.program.LiteralRow.{LiteralRow}
use Rattle.flat_language.specs.FlatForm.{FlatForm, FlatForms, no_form, form_and}
use Rattle.flat_language.specs.model.View.{forms}
use Rattle.back_leaves.specs.Asks.{asked_one}
use Rattle.back_lowering.proofs.Rests.{there, past}
use Rattle.back_lowering.specs.declared.placement.Placement.{Placement}
use Rattle.back_lowering.specs.Steps.{Steps}
use Rattle.back_lowering.specs.Primitives.{where_likely_tag, where_integers, known_integer, asked_integers, second_known, behind_first}

-- an argument of which it is not known, and one of which it is

pub asked_unknown : (at : Placement) (literals : List LiteralRow) (d : ℕ) (f : FlatForm) (fs : FlatForms)
    → known_integer at literals f ≡ None → asked_integers at literals d (form_and f fs) ≡ d ∷ asked_integers at literals (d + 1) fs
asked_unknown at literals d f fs e = rw e refl

pub asked_known : (at : Placement) (literals : List LiteralRow) (d w : ℕ) (f : FlatForm) (fs : FlatForms)
    → known_integer at literals f ≡ Some w → asked_integers at literals d (form_and f fs) ≡ asked_integers at literals (d + 1) fs
asked_known at literals d w f fs e = rw e refl

-- by how many are asked

pub none_asked : (asked : List ℕ) (t : ℕ) (first second : Steps) → length asked ≤ 0 → where_integers asked t first second ≡ first
none_asked [] t first second h = refl
none_asked (r ∷ rs) t first second h = absurd (omega arith)

pub one_asked : (asked : List ℕ) (t r : ℕ) (first second : Steps) → slice_get asked 0 ≡ Some r → length asked ≤ 1
    → where_integers asked t first second ≡ where_likely_tag r t 0 first second
one_asked [] t r first second e h = cc
one_asked (q ∷ []) t r first second e h = let s : q ≡ r = cc in ap (λ (x : ℕ). where_likely_tag x t 0 first second) s
one_asked (q ∷ p ∷ rs) t r first second e h = absurd (omega arith)

-- the second argument

pub second_there : (at : Placement) (literals : List LiteralRow) (fs : List FlatForm) (g : FlatForm) → slice_get fs 1 ≡ Some g
    → second_known at literals (forms fs) ≡ known_integer at literals g
second_there at literals [] g e = cc
second_there at literals (f ∷ []) g e = cc
second_there at literals (f ∷ h ∷ fs) g e = let s : h ≡ g = cc in ap (known_integer at literals) s

pub second_wanting : (at : Placement) (literals : List LiteralRow) (fs : List FlatForm) → length fs ≤ 1
    → second_known at literals (forms fs) ≡ None
second_wanting at literals [] h = refl
second_wanting at literals (f ∷ []) h = refl
second_wanting at literals (f ∷ g ∷ fs) h = absurd (omega arith)

pub behind_is : (fs : List FlatForm) → behind_first (forms fs) ≡ forms (drop 1 fs)
behind_is [] = refl
behind_is (f ∷ fs) = refl

-- ---- from one argument to the next

module _ (at : Placement) (literals : List LiteralRow) where
  asked_by : (d : ℕ) (f : FlatForm) (fs : FlatForms) (o : Option ℕ) → known_integer at literals f ≡ o
      → asked_integers at literals d (form_and f fs) ≡ asked_one o d ++ asked_integers at literals (d + 1) fs
  asked_by d f fs None e = asked_unknown at literals d f fs e
  asked_by d f fs (Some w) e = asked_known at literals d w f fs e

  -- those that are asked so far, and those that may be asked yet
  pub asked_step : (all made new : List ℕ) (fs : List FlatForm) (d i : ℕ) (f : FlatForm)
      → slice_get fs i ≡ Some f
      → made ++ asked_integers at literals (d + i) (forms (drop i fs)) ≡ all
      → new ≡ made ++ asked_one (known_integer at literals f) (d + i)
      → new ++ asked_integers at literals (d + (i + 1)) (forms (drop (i + 1) fs)) ≡ all
  asked_step all made new fs d i f here so is =
      let r : d + (i + 1) ≡ (d + i) + 1 = omega arith in
      let n : drop i fs ≡ f ∷ drop (i + 1) fs = there fs i f here ∙ sym (ap (λ (k : ℕ). f ∷ drop k fs) (add-one i)) in
      ap (λ (xs : List ℕ). xs ++ asked_integers at literals (d + (i + 1)) (forms (drop (i + 1) fs))) is
      ∙ append_assoc made (asked_one (known_integer at literals f) (d + i)) (asked_integers at literals (d + (i + 1)) (forms (drop (i + 1) fs)))
      ∙ ap (λ (k : ℕ). made ++ (asked_one (known_integer at literals f) (d + i) ++ asked_integers at literals k (forms (drop (i + 1) fs)))) r
      ∙ sym (ap (λ (xs : List ℕ). made ++ xs) (asked_by (d + i) f (forms (drop (i + 1) fs)) (known_integer at literals f) refl))
      ∙ sym (ap (λ (gs : List FlatForm). made ++ asked_integers at literals (d + i) (forms gs)) n)
      ∙ so

  pub asked_done : (all made : List ℕ) (fs : List FlatForm) (d i : ℕ) → length fs ≤ i
      → made ++ asked_integers at literals (d + i) (forms (drop i fs)) ≡ all
      → made ≡ all
  asked_done all made fs d i h so =
      sym (append-nil made)
      ∙ sym (ap (λ (gs : List FlatForm). made ++ asked_integers at literals (d + i) (forms gs)) (past fs i h))
      ∙ so
