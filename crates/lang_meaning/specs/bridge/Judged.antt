-- Tests of forms, by the forms right inside: what code and proofs use of the tests that are walks.
use Rattle.std.specs.Prelude.{◌≡◌, Bool, true, false, not, ◌&&◌, ◌||◌, List, [], ◌∷◌, ◌++◌, map, flat_map, refl}
use Rattle.std.specs.List.{list_all, list_any}
use Rattle.std.proofs.Common.{◌∙◌, ap}
use Rattle.std.proofs.lemmas.List.Folds.{list_all-append, list_all-map}
use Rattle.lang_meaning.specs.declared.capture.Capture.{Capture}
use Rattle.lang_meaning.specs.declared.program.ProgramRows.{ProgramRows}
use Rattle.lang_meaning.specs.declared.scope.LexicalScope.{LexicalScope}
use Rattle.lang_meaning.specs.Form.{Form}
use Rattle.lang_meaning.specs.Subforms.{outer, inner}
use Rattle.lang_meaning.specs.Inside.{inside_step, inside_form}
use Rattle.lang_meaning.specs.Mentions.{some, names_part, binds, mentions_step, mentions}
use Rattle.lang_meaning.specs.Fits.{fits_itself, fits}
use Rattle.lang_meaning.specs.Standing.{all_in, around_inner, stands_itself, stands_step, stands_in, stands}
use Rattle.lang_meaning.specs.bridge.Walks.{folded}

some_mapped : {X : Type 0} (test : X → Bool) (xs : List X) → some (map test xs) ≡ list_any test xs
some_mapped test [] = refl
some_mapped test (x ∷ xs) = ap (λ b. test x || b) (some_mapped test xs)

all_joined : {X : Type 0} (test : Form → Bool) (g : X → List Form) (xs : List X)
    → list_all test (flat_map (λ fs. fs) (map g xs)) ≡ list_all (λ x. list_all test (g x)) xs
all_joined test g [] = refl
all_joined test g (x ∷ xs) =
    list_all-append test (g x) (flat_map (λ fs. fs) (map g xs)) ∙ ap (λ b. list_all test (g x) && b) (all_joined test g xs)

and_assoc : (a b c : Bool) → (a && (b && c)) ≡ ((a && b) && c)
and_assoc true b c = refl
and_assoc false b c = refl

-- a form and those inside it, by the forms right inside
pub inside_folded : (f : Form)
    → inside_form f ≡ f ∷ (flat_map (λ fs. fs) (map inside_form (outer f)) ++ flat_map (λ fs. fs) (map inside_form (inner f)))
inside_folded f = folded inside_step f

-- whether all forms inside pass a test
pub all_inside : (test : Form → Bool) (f : Form)
    → list_all test (inside_form f)
    ≡ (test f && list_all (λ g. list_all test (inside_form g)) (outer f) && list_all (λ g. list_all test (inside_form g)) (inner f))
all_inside test f =
    ap (list_all test) (inside_folded f)
    ∙ ap (λ b. test f && b)
    (list_all-append test (flat_map (λ fs. fs) (map inside_form (outer f))) (flat_map (λ fs. fs) (map inside_form (inner f)))
    ∙ ap (λ b. b && list_all test (flat_map (λ fs. fs) (map inside_form (inner f)))) (all_joined test inside_form (outer f))
    ∙ ap (λ b. list_all (λ g. list_all test (inside_form g)) (outer f) && b) (all_joined test inside_form (inner f)))
    ∙ and_assoc (test f) (list_all (λ g. list_all test (inside_form g)) (outer f)) (list_all (λ g. list_all test (inside_form g)) (inner f))

pub fits_folded : (rows : ProgramRows) (f : Form)
    → fits rows f ≡ (fits_itself rows f && list_all (fits rows) (outer f) && list_all (fits rows) (inner f))
fits_folded rows f = all_inside (fits_itself rows) f

pub mentions_folded : (p : Capture) (f : Form)
    → mentions p f ≡ (names_part p f || list_any (mentions p) (outer f) || (not (binds p f) && list_any (mentions p) (inner f)))
mentions_folded p f =
    folded (mentions_step p) f
    ∙ ap (λ b. names_part p f || b || (not (binds p f) && some (map (mentions p) (inner f)))) (some_mapped (mentions p) (outer f))
    ∙ ap (λ b. names_part p f || list_any (mentions p) (outer f) || (not (binds p f) && b)) (some_mapped (mentions p) (inner f))

pub stands_folded : (s : LexicalScope) (f : Form)
    → stands s f ≡ (stands_itself s f && list_all (stands s) (outer f) && list_all (stands (around_inner f s)) (inner f))
stands_folded s f =
    ap (λ (test : LexicalScope → Bool). test s) (folded stands_step f)
    ∙ ap (λ b. stands_itself s f && b && all_in (around_inner f s) (map stands_in (inner f))) (list_all-map (λ test. test s) stands_in (outer f))
    ∙ ap (λ b. stands_itself s f && list_all (stands s) (outer f) && b) (list_all-map (λ test. test (around_inner f s)) stands_in (inner f))
