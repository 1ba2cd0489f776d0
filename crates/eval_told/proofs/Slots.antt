-- What is told of values, and of slots one behind another.
use Rattle.std.proofs.Common.{◌≡◌, ℕ, ◌+◌, take, List, [], ◌∷◌, ◌++◌, Option, Some, None, refl, sym, ap, subst, ◌∙◌, append_assoc, append-nil}
use Rattle.std.specs.Prelude.{codes, slice_get}
use Rattle.std.proofs.lemmas.List.{map-append}
use Rattle.base.specs.model.DataRest.{take_at}
use Rattle.lang_meaning.specs.declared.program.ClassRow.{ClassRow}
use Rattle.lang_meaning.specs.Values.{Value}
use Rattle.lang_meaning.specs.Objects.{Object}
use Rattle.lang_taken.specs.Shapes.{shape_of}
use Rattle.lang_told.specs.Told.{tells_class, tells_datum, tells_other, TellsSlot, tells_value, tells_unbound, TellsSlots, no_slot, a_slot, Tells}
use Rattle.lang_told.specs.Told.{name_at, behind_colon, which_class, class_at, slots_at, slots_of_object, most_parts}
use Rattle.lang_told.specs.Written.{IsUnwritten}
use Rattle.eval_store.specs.declared.word.Word.{Word}
use Rattle.eval_store.specs.declared.object.Object.{Object as StoredObject}
use Rattle.eval_store.specs.declared.object.Object.TheVariants as made
use Rattle.eval_store.specs.declared.object.Instance.{Instance}
use Rattle.eval_store.specs.Words.{value_or_none, slots_of, object_of}
use Rattle.eval_told.specs.Attempts.{IsWritten}
use Rattle.eval_told.specs.Telling.{ValueIsTold, SlotIsTold, SlotsAreTold, begun}

module _ (names : List (List ℕ)) (classes : List ClassRow) (objects : List Object) where
  -- ---- values

  pub class_told :
      (v : Value) (class : ℕ) (old new name : List ℕ) → which_class objects v ≡ Some class → name ≡ name_at names classes objects class → new ≡ old ++ name
      → ValueIsTold names classes objects v old new
  class_told v class old new name is named appended = record {
    text = name_at names classes objects class;
    tells = tells_class v class is;
    appended = appended ∙ ap (λ xs. old ++ xs) named;
  }

  pub datum_told :
      (v : Value) (rest : ℕ) (old new start text piece : List ℕ) → start ≡ [] → IsWritten objects (shape_of objects v) most_parts start text rest → piece ≡ text
      → new ≡ old ++ piece
      → ValueIsTold names classes objects v old new
  datum_told v rest old new start text piece none w same appended = record {
    text = w.text;
    tells = tells_datum v w.text rest w.writes;
    appended = appended ∙ ap (λ xs. old ++ xs) (same ∙ w.appended ∙ ap (λ xs. xs ++ w.text) none);
  }

  pub other_told :
      (v : Value) (class : ℕ) (old front new name : List ℕ) → which_class objects v ≡ None → IsUnwritten objects most_parts (shape_of objects v)
      → class_at objects v ≡ class → front ≡ old ++ codes "#" → name ≡ name_at names classes objects class → new ≡ front ++ name
      → ValueIsTold names classes objects v old new
  other_told v class old front new name none unwritten is marked named appended = record {
    text = codes "#" ++ name_at names classes objects (class_at objects v);
    tells = tells_other v none unwritten;
    appended =
        appended ∙ ap (λ xs. xs ++ name) marked ∙ append_assoc old (codes "#") name
        ∙ ap (λ xs. old ++ (codes "#" ++ xs)) (named ∙ ap (name_at names classes objects) (sym is));
  }

  -- ---- slots

  pub value_told : (v : Value) (old new : List ℕ) → ValueIsTold names classes objects v old new → SlotIsTold names classes objects (Some v) old new
  value_told v old new t = record { text = t.text; tells = tells_value v t.text t.tells; appended = t.appended }

  pub unbound_told : (old new : List ℕ) → new ≡ old ++ codes "#<unbound>" → SlotIsTold names classes objects None old new
  unbound_told old new appended = record { text = codes "#<unbound>"; tells = tells_unbound; appended = appended }

  pub none_told : (told : List ℕ) → told ≡ [] → SlotsAreTold names classes objects [] told
  none_told told is = record { text = []; tells = no_slot; told_is = is }

  -- one more
  behind :
      (slots : List (Option Value)) (slot : Option Value) (texts text : List ℕ) → TellsSlots names classes objects slots texts → TellsSlot names classes objects slot text
      → TellsSlots names classes objects (slots ++ slot ∷ []) (texts ++ (codes " " ++ text))
  behind slots slot texts text no_slot t =
      let P : List ℕ → Type 0 = λ xs. TellsSlots names classes objects (slot ∷ []) (codes " " ++ xs) in
      subst P (append-nil text) (a_slot slot [] text [] t no_slot)
  behind slots slot texts text (a_slot s ss x xs h hs) t =
      let P : List ℕ → Type 0 = λ ys. TellsSlots names classes objects (s ∷ (ss ++ slot ∷ [])) (codes " " ++ ys) in
      subst P (sym (append_assoc x xs (codes " " ++ text))) (a_slot s (ss ++ slot ∷ []) x (xs ++ (codes " " ++ text)) h (behind ss slot xs text hs t))

  goes_on :
      (texts text told new : List ℕ) → told ≡ behind_colon names classes objects texts → new ≡ begun told ++ text
      → new ≡ behind_colon names classes objects (texts ++ (codes " " ++ text))
  goes_on [] text told new is appended = appended ∙ ap (λ xs. begun xs ++ text) is
  goes_on (b ∷ bs) text told new is appended =
      appended ∙ ap (λ xs. begun xs ++ text) is ∙ append_assoc (codes ":" ++ (b ∷ bs)) (codes " ") text

  pub slot_told :
      (slots : List (Option Value)) (slot : Option Value) (told front new : List ℕ) → SlotsAreTold names classes objects slots told → front ≡ begun told
      → SlotIsTold names classes objects slot front new → SlotsAreTold names classes objects (slots ++ slot ∷ []) new
  slot_told slots slot told front new before started t = record {
    text = before.text ++ (codes " " ++ t.text);
    tells = behind slots slot before.text t.text before.tells t.tells;
    told_is = goes_on before.text t.text told new before.told_is (t.appended ∙ ap (λ xs. xs ++ t.text) started);
  }

  pub condition_told :
      (v : Value) (slots : List (Option Value)) (told : List ℕ) → slots_at objects v ≡ slots → SlotsAreTold names classes objects slots told
      → Tells names classes objects v told
  condition_told v slots told is t =
      let P : List (Option Value) → Type 0 = λ ss. TellsSlots names classes objects ss t.text in
      record { text = t.text; slots = subst P (sym is) t.tells; told_is = t.told_is }

-- ---- slots of instances

-- one slot more
pub slots_more :
    (names : List (List ℕ)) (os : List (Option Word)) (i : ℕ) (o : Option Word) → slice_get os i ≡ Some o
    → slots_of names (take (i + 1) os) ≡ slots_of names (take i os) ++ value_or_none names o ∷ []
slots_more names os i o h = ap (slots_of names) (take_at os i o h) ∙ map-append (value_or_none names) (take i os) (o ∷ [])

-- what is no instance has none
pub no_slots : (names : List (List ℕ)) (o : StoredObject) → ((i : Instance) → o ≡ made.Instance i → ⊥) → slots_of_object (Some (object_of names o)) ≡ []
no_slots names (made.Instance i) h = absurd (h i refl)
no_slots names o h = refl

module _ (names : List (List ℕ)) (classes : List ClassRow) (objects : List Object) where
  pub next_told :
      (os : List (Option Word)) (i : ℕ) (o : Option Word) (told front new : List ℕ) → slice_get os i ≡ Some o
      → SlotsAreTold names classes objects (slots_of names (take i os)) told → front ≡ begun told
      → SlotIsTold names classes objects (value_or_none names o) front new → SlotsAreTold names classes objects (slots_of names (take (i + 1) os)) new
  next_told os i o told front new h before started t =
      let P : List (Option Value) → Type 0 = λ ss. SlotsAreTold names classes objects ss new in
      subst P (sym (slots_more names os i o h))
      (slot_told names classes objects (slots_of names (take i os)) (value_or_none names o) told front new before started t)
