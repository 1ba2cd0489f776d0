-- What a form captures and sets, by the forms right inside it; and loops over those.
use Rattle.std.proofs.Common.{◌≡◌, ◌≤◌, ℕ, Bool, not, ◌&&◌, ◌||◌, List, [], ◌∷◌, ◌++◌, refl, ap, ◌∙◌}
use Rattle.std.specs.Prelude.{map}
use Rattle.std.specs.List.{list_any}
use Rattle.std.proofs.lemmas.List.Folds.{list_any-append}
use Rattle.lang_meaning.specs.declared.capture.Capture.{Capture}
use Rattle.lang_meaning.specs.declared.capture.Capture.TheVariants.{Variable}
use Rattle.lang_meaning.specs.Form.{Form}
use Rattle.lang_meaning.specs.Subforms.{outer, inner}
use Rattle.lang_meaning.specs.Mentions.{binds, some}
use Rattle.lang_meaning.specs.Captured.{captures, captures_inside, sets, sets_itself}
use Rattle.lang_meaning.specs.bridge.Smaller.{sizes}
use Rattle.lang_meaning.specs.bridge.Walks.{folded}

-- what is asked of all forms is left to see of these
pub record IsLeft (asked : List Form → Bool) (all left : List Form) : Type 0 where
  pub smaller : sizes left ≤ sizes all
  pub same : asked left ≡ asked all

pub any_of_both : {X : Type 0} (p : X → Bool) (xs ys : List X) → list_any p (xs ++ ys) ≡ (list_any p xs || list_any p ys)
any_of_both p xs ys = list_any-append p xs ys

some_mapped : {X : Type 0} (test : X → Bool) (xs : List X) → some (map test xs) ≡ list_any test xs
some_mapped test [] = refl
some_mapped test (x ∷ xs) = ap (λ b. test x || b) (some_mapped test xs)

pub captures_folded : (p : Capture) (f : Form) → captures p f ≡ (list_any (captures p) (outer f) || captures_inside p f (list_any (captures p) (inner f)))
captures_folded p f =
    folded (λ g outer inner. some outer || captures_inside p g (some inner)) f
    ∙ ap (λ b. b || captures_inside p f (some (map (captures p) (inner f)))) (some_mapped (captures p) (outer f))
    ∙ ap (λ b. list_any (captures p) (outer f) || captures_inside p f b) (some_mapped (captures p) (inner f))

pub sets_folded : (v : ℕ) (f : Form) → sets v f ≡ (sets_itself v f || list_any (sets v) (outer f) || (not (binds (Variable v) f) && list_any (sets v) (inner f)))
sets_folded v f =
    folded (λ g outer inner. sets_itself v g || some outer || (not (binds (Variable v) g) && some inner)) f
    ∙ ap (λ b. sets_itself v f || b || (not (binds (Variable v) f) && some (map (sets v) (inner f)))) (some_mapped (sets v) (outer f))
    ∙ ap (λ b. sets_itself v f || list_any (sets v) (outer f) || (not (binds (Variable v) f) && b)) (some_mapped (sets v) (inner f))
