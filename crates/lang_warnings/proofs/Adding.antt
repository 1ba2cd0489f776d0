-- Lists to which what is found of forms is added: of a form, of the forms right inside it, and form by form of a list.
use Rattle.std.proofs.Common.{◌≡◌, ℕ, ◌+◌, ◌≤◌, List, [], ◌∷◌, ◌++◌, length, drop, Option, Some, None, Result, Ok, Err, OnOk, slice_get, map, flat_map, option_to_list, refl, sym, ap, ◌∙◌, append_assoc, append-nil}
use Rattle.std.specs.List.{filter_map, cons_option}
use Rattle.std.proofs.lemmas.List.{drop_all}
use Rattle.std.proofs.lemmas.List.Elements.{filter_map-append}
use Rattle.base.specs.model.DataRest.{rest_at}
use Rattle.lang_meaning.specs.Form.{Form}
use Rattle.lang_meaning.specs.Subforms.{outer, inner}
use Rattle.lang_meaning.specs.Inside.{inside_form}
use Rattle.lang_meaning.specs.bridge.Judged.{inside_folded}
use Rattle.lang_meaning.specs.bridge.Smaller.{sizes}

-- where it did not fail
pub ok_after : {E P Q : Type 0} (r : Result (Unit {0}) E) → (P → Q) → OnOk r P → OnOk r Q
ok_after (Ok x) f p = f p
ok_after (Err e) f p = tt

-- one after another

module _ {Y X : Type 0} (found : Y → List X) where
  -- what is found of the rest is still to be added
  abbrev pub ToAdd : (all rest : List Y) (start now : List X) → Type 0
  ToAdd all rest start now = start ++ flat_map found all ≡ now ++ flat_map found rest

  pub one_added : (all rest : List Y) (y : Y) (start now new : List X) → ToAdd all (y ∷ rest) start now → new ≡ now ++ found y
      → ToAdd all rest start new
  one_added all rest y start now new before e =
      before ∙ sym (append_assoc now (found y) (flat_map found rest)) ∙ ap (λ xs. xs ++ flat_map found rest) (sym e)

  pub all_added : (all : List Y) (start now : List X) → ToAdd all [] start now → now ≡ start ++ flat_map found all
  all_added all start now before = sym (before ∙ append-nil now)

  -- the same of a list that is gone through by numbers
  pub next_added : (all : List Y) (at : ℕ) (y : Y) (start now new : List X) → slice_get all at ≡ Some y
      → ToAdd all (drop at all) start now → new ≡ now ++ found y → ToAdd all (drop (at + 1) all) start new
  next_added all at y start now new there before e =
      one_added all (drop (at + 1) all) y start now new (before ∙ ap (λ ys. now ++ flat_map found ys) (rest_at all at y there)) e

  pub last_added : (all : List Y) (at : ℕ) (start now : List X) → length all ≤ at → ToAdd all (drop at all) start now
      → now ≡ start ++ flat_map found all
  last_added all at start now end before =
      all_added all start now (before ∙ ap (λ ys. now ++ flat_map found ys) (drop_all at all end))

-- the same of forms, which get smaller on the way
pub record LeftToAdd {X : Type 0} (found : Form → List X) (all rest : List Form) (start now : List X) : Type 0 where
  pub smaller : sizes rest ≤ sizes all
  pub to_add : ToAdd found all rest start now

-- of a form and all forms inside it

module _ {X : Type 0} (own : Form → Option X) where
  abbrev inside : Form → List X
  inside f = filter_map own (inside_form f)

  joined : (fs : List Form) → filter_map own (flat_map (λ gs. gs) (map inside_form fs)) ≡ flat_map inside fs
  joined [] = refl
  joined (f ∷ fs) =
      filter_map-append own (inside_form f) (flat_map (λ gs. gs) (map inside_form fs)) ∙ ap (λ xs. inside f ++ xs) (joined fs)

  in_front : (x : Option X) (xs : List X) → cons_option x xs ≡ option_to_list x ++ xs
  in_front None xs = refl
  in_front (Some x) xs = refl

  pub inside_found : (f : Form) → inside f ≡ option_to_list (own f) ++ (flat_map inside (outer f) ++ flat_map inside (inner f))
  inside_found f =
      ap (filter_map own) (inside_folded f)
      ∙ ap (cons_option (own f))
      (filter_map-append own (flat_map (λ gs. gs) (map inside_form (outer f))) (flat_map (λ gs. gs) (map inside_form (inner f)))
      ∙ ap (λ xs. xs ++ filter_map own (flat_map (λ gs. gs) (map inside_form (inner f)))) (joined (outer f))
      ∙ ap (λ xs. flat_map inside (outer f) ++ xs) (joined (inner f)))
      ∙ in_front (own f) (flat_map inside (outer f) ++ flat_map inside (inner f))

  -- its own, then what is found of the forms right inside
  pub form_added : (f : Form) (start own_there outer_there all_there : List X) (outs ins : List Form) → outs ≡ outer f → ins ≡ inner f
      → own_there ≡ start ++ option_to_list (own f) → outer_there ≡ own_there ++ flat_map inside outs
      → all_there ≡ outer_there ++ flat_map inside ins → all_there ≡ start ++ inside f
  form_added f start own_there outer_there all_there outs ins o i e g h =
      h
      ∙ ap (λ xs. xs ++ flat_map inside ins) (g ∙ ap (λ xs. xs ++ flat_map inside outs) e)
      ∙ append_assoc (start ++ option_to_list (own f)) (flat_map inside outs) (flat_map inside ins)
      ∙ append_assoc start (option_to_list (own f)) (flat_map inside outs ++ flat_map inside ins)
      ∙ ap (λ xs. start ++ xs)
      (ap (λ fs. option_to_list (own f) ++ (flat_map inside fs ++ flat_map inside ins)) o
      ∙ ap (λ fs. option_to_list (own f) ++ (flat_map inside (outer f) ++ flat_map inside fs)) i
      ∙ sym (inside_found f))
