-- **The frame of a body, and of a main form, with what its code lays at a time.**
use Rattle.std.proofs.Common.{◌≡◌, ℕ, ◌+◌, ◌*◌, ◌≤◌, Bool, true, false, List, [], ◌∷◌, ◌++◌, inl, inr, length, refl, arith, length-append}
use Rattle.std.specs.Prelude.{max, if◌then◌else◌}
use Rattle.base.specs.AllOf.{AllOf}
use Rattle.flat_language.specs.declared.place.Home.{Home}
use Rattle.flat_language.specs.declared.place.Home.TheVariants as home
use Rattle.flat_language.specs.declared.program.FlatProcedure.{FlatProcedure}
use Rattle.flat_language.specs.FlatForm.{FlatForm}
use Rattle.flat_language.specs.FlatNodes.{homes, nodes}
use Rattle.flat_language.specs.FlatFits.{Fits}
use Rattle.mid_code.specs.declared.operation.Arithmetic.TheVariants as which
use Rattle.mid_code.specs.MidCode.{with_block, return_word, end_unhandled, code_of}
use Rattle.back_lowering.specs.ControlWords.{link_address, landing_address, site_address, end_address, record_serial, record_link, record_words, end_kind}
use Rattle.back_lowering.specs.Mentions.{own_mentions}
use Rattle.back_lowering.specs.Registers.{of_code}
use Rattle.back_lowering.specs.Scope.{registers_from}
use Rattle.back_lowering.specs.declared.scope.SitePlace.TheVariants.{Known, Held}
use Rattle.back_lowering.specs.declared.scope.Scope.{Scope}
use Rattle.back_lowering.specs.Sites.{asks_site}
use Rattle.back_lowering.specs.Steps.{Steps, constant, compute, load, store, load_from}
use Rattle.back_lowering.specs.Leaves.{boxes_made}
use Rattle.back_lowering.specs.Records.{record_laid}
use Rattle.back_lowering.specs.Codes.{lower}
use Rattle.back_lowering.specs.Calls.{variable_count}
use Rattle.back_lowering.specs.Program.{Extra, nothing, its_method, itself, method_at, site_register, scope_of, site_taken, main_scope, main_form}
use Rattle.back_relation.specs.Setting.{Setting}
use Rattle.back_relation.specs.Room.{routine_words, words_for}
use Rattle.back_relation.specs.Procedures.{BodyPaid}
use Rattle.back_frames.specs.Heights.{height}
use Rattle.flat_boxes.specs.Boxes.{boxes, captures_itself, BoxesAreCaptured}
use Rattle.back_frames.specs.Laws.{LawOfBodiesPaid, LawOfMainsPaid}
use Rattle.back_frames.proofs.Nodes.{nodes_are}
use Rattle.back_frames.proofs.FormsIn.{forms_in, total_is}
use Rattle.back_frames.proofs.Bounds.{own_marks, bounded}
use Rattle.back_frames.proofs.Mentioned.{marks_are}
use Rattle.back_frames.proofs.Paid.{all_paid, fit_paid}
use Rattle.back_frames.proofs.Naming.{Names, Range, narrowed, none, ◌▸◌, ◌⊹◌, either, constants, computes, loads, stores, returns, ends, blocks}
use Rattle.back_frames.proofs.Surroundings.{SiteAllowed, MethodAllowed, Around, AllPlaces}
use Rattle.back_frames.proofs.LeafNames.{load_from_names, boxed_registers, boxes_names}
use Rattle.back_frames.proofs.RecordNames.{laid_names}
use Rattle.back_frames.proofs.FormNames.{form_names}
use Rattle.back_frames.proofs.Once.{In, in_left, in_right, all_in, in_range, length-range, once_few}
use Rattle.back_frames.proofs.PlaceRegisters.{of_forms, forms_few, forms_allowed}

boxes_counted : (hs : List Home) (d : ℕ) → length (boxed_registers hs d) ≡ boxes hs
boxes_counted [] d = refl
boxes_counted (home.Slot ∷ hs) d = boxes_counted hs (d + 1)
boxes_counted (home.Boxed ∷ hs) d = let inner = boxes_counted hs (d + 1) in omega arith

module _ (setting : Setting) (extra : Extra) (q : FlatProcedure) where
  abbrev v : ℕ
  v = variable_count q

  abbrev site : ℕ
  site = site_register setting.names setting.at setting.program extra q

  abbrev d : ℕ
  d = site + 1

  abbrev s : Scope
  s = scope_of setting.names setting.at setting.program extra q

  abbrev h : ℕ
  h = max 2 (height q.body)

  -- the function itself, which is where its method would be, with the two registers behind; the site; variables with boxes; what is named by
  -- places; and those of the form
  abbrev behind_boxes : List ℕ
  behind_boxes = of_forms s (forms_in q.body) ++ registers_from d h

  abbrev all_named : List ℕ
  all_named = v ∷ (v + 1) ∷ (v + 2) ∷ site ∷ (boxed_registers (homes q) 0 ++ behind_boxes)

  abbrev P : ℕ → Type 0
  P r = In r all_named

  boxed_there : AllOf P (boxed_registers (homes q) 0)
  boxed_there = all_in P (boxed_registers (homes q) 0) (λ r there. inr (inr (inr (inr (in_left r (boxed_registers (homes q) 0) behind_boxes there)))))

  places_there : AllPlaces P s q.body
  places_there =
      forms_allowed P s (forms_in q.body)
      (λ r there. inr (inr (inr (inr (in_right r (boxed_registers (homes q) 0) behind_boxes (in_left r (of_forms s (forms_in q.body)) (registers_from d h) there))))))

  range_there : Range P d h
  range_there r low high =
      inr (inr (inr (inr (in_right r (boxed_registers (homes q) 0) behind_boxes
      (in_right r (of_forms s (forms_in q.body)) (registers_from d h) (in_range d h r low high))))))

  function_there : P v
  function_there = inl refl

  site_there : P site
  site_there = inr (inr (inr (inl refl)))

  method_there : (e : Extra) → MethodAllowed P (method_at setting.names setting.at setting.program e v)
  method_there nothing = tt
  method_there its_method = (inl refl, inr (inl refl), inr (inr (inl refl)))
  method_there itself = tt

  held_there : (b : Bool) → SiteAllowed P (if b then Held site else Known 0)
  held_there true = site_there
  held_there false = tt

  around : Around P s
  around = record { function = function_there; method = method_there extra; site = held_there (asks_site q.body) }

  abbrev steps : Steps
  steps =
      site_taken setting.names setting.at setting.program extra q
      ++ (boxes_made (homes q) 0 d ++ ((lower setting.names setting.at setting.program s d q.body).value ++ (return_word d ∷ [])))

  -- **every register that the body names is one of them**
  body_names : Names P steps
  body_names =
      let d0 : P d = range_there d (omega arith) (omega arith) in
      let d1 : P (d + 1) = range_there (d + 1) (omega arith) (omega arith) in
      let form = form_names setting.names setting.at setting.program P s d q.body around places_there (narrowed d h d (height q.body) range_there (omega arith) (omega arith)) in
      either (asks_site q.body) (load_from site site site_address) [] (load_from_names site site site_address site_there site_there) none
      ⊹ boxes_names (homes q) 0 d boxed_there d0 d1
      ⊹ form.value
      ⊹ returns d0 ▸ none

  pub body_paid : BoxesAreCaptured q → BodyPaid setting extra q
  body_paid captured =
      let few = once_few (of_code (code_of steps)) all_named body_names.all in
      let boxed = boxes_counted (homes q) 0 in
      let both = length-append (boxed_registers (homes q) 0) behind_boxes in
      let more = length-append (of_forms s (forms_in q.body)) (registers_from d h) in
      let range = length-range d h in
      let places = forms_few s (forms_in q.body) in
      let names = total_is own_marks q.body in
      let marked = marks_are (forms_in q.body) in
      let mentioned = total_is own_mentions q.body in
      let captures = total_is captures_itself q.body in
      let counted = nodes_are q.body in
      let enough : 42 ≤ 58 = omega arith in
      let form = bounded setting.names setting.program 58 enough q.body (all_paid (forms_in q.body)) in
      omega arith

pub bodies_paid : LawOfBodiesPaid
bodies_paid setting extra q captured = body_paid setting extra q captured

module _ (setting : Setting) (f : FlatForm) where
  abbrev height_there : ℕ
  height_there = max 1 (height f)

  -- those of the record of the end, what is named by places, and those of the form
  abbrev main_behind : List ℕ
  main_behind = of_forms (main_scope setting.names setting.at setting.program) (forms_in f) ++ registers_from 8 height_there

  abbrev main_named : List ℕ
  main_named = registers_from 0 8 ++ main_behind

  abbrev Q : ℕ → Type 0
  Q r = In r main_named

  low_there : Range Q 0 8
  low_there r low high = in_left r (registers_from 0 8) main_behind (in_range 0 8 r low high)

  main_places : AllPlaces Q (main_scope setting.names setting.at setting.program) f
  main_places =
      forms_allowed Q (main_scope setting.names setting.at setting.program) (forms_in f)
      (λ r there. in_right r (registers_from 0 8) main_behind (in_left r (of_forms (main_scope setting.names setting.at setting.program) (forms_in f)) (registers_from 8 height_there) there))

  main_range : Range Q 8 height_there
  main_range r low high =
      in_right r (registers_from 0 8) main_behind
      (in_right r (of_forms (main_scope setting.names setting.at setting.program) (forms_in f)) (registers_from 8 height_there) (in_range 8 height_there r low high))

  main_around : Around Q (main_scope setting.names setting.at setting.program)
  main_around = record { function = low_there 0 (omega arith) (omega arith); method = tt; site = tt }

  abbrev inside : Steps
  inside =
      record_laid 0 6 end_kind
      ++ (constant 7 0 ∷ store 7 0 record_serial ∷ store 2 0 record_link ∷ store 0 6 link_address ∷ store 0 6 end_address
      ∷ ((lower setting.names setting.at setting.program (main_scope setting.names setting.at setting.program) 8 f).value ++ (return_word 8 ∷ [])))

  abbrev landing : Steps
  landing =
      load 6 5 2 ∷ load 6 6 2 ∷ constant 7 2 ∷ compute 6 which.ShiftRight 6 7 ∷ constant 7 0 ∷ load 7 7 landing_address ∷ end_unhandled 6 7 5 ∷ []

  abbrev main_steps : Steps
  main_steps = with_block 0 record_words 5 (code_of inside) (code_of landing) ∷ []

  main_names : Names Q main_steps
  main_names =
      let r0 : Q 0 = low_there 0 (omega arith) (omega arith) in
      let r2 : Q 2 = low_there 2 (omega arith) (omega arith) in
      let r5 : Q 5 = low_there 5 (omega arith) (omega arith) in
      let r6 : Q 6 = low_there 6 (omega arith) (omega arith) in
      let r7 : Q 7 = low_there 7 (omega arith) (omega arith) in
      let r8 : Q 8 = main_range 8 (omega arith) (omega arith) in
      let form =
      form_names setting.names setting.at setting.program Q (main_scope setting.names setting.at setting.program) 8 f main_around main_places
      (narrowed 8 height_there 8 (height f) main_range (omega arith) (omega arith))
      in
      blocks {inside = inside} {landing = landing} r0 r5
      (laid_names 0 6 end_kind (narrowed 0 8 0 5 low_there (omega arith) (omega arith)) r6 r7
      ⊹ constants r7 ▸ stores r7 r0 ▸ stores r2 r0 ▸ stores r0 r6 ▸ stores r0 r6
      ▸ form.value ⊹ returns r8 ▸ none)
      (loads r6 r5 ▸ loads r6 r6 ▸ constants r7 ▸ computes r6 r6 r7 ▸ constants r7 ▸ loads r7 r7 ▸ ends r6 r7 r5 ▸ none)
      ▸ none

  main_paid :
      Fits setting.program f
      → (main_form setting.names setting.at setting.program f).frame + 8 + words_for setting.names setting.program f ≤ 16 + 16 * nodes f + (routine_words + 3)
  main_paid fits =
      let few = once_few (of_code (code_of main_steps)) main_named main_names.all in
      let both = length-append (registers_from 0 8) main_behind in
      let more = length-append (of_forms (main_scope setting.names setting.at setting.program) (forms_in f)) (registers_from 8 height_there) in
      let range = length-range 8 height_there in
      let places = forms_few (main_scope setting.names setting.at setting.program) (forms_in f) in
      let names = total_is own_marks f in
      let marked = marks_are (forms_in f) in
      let counted = nodes_are f in
      let enough : 42 ≤ 54 = omega arith in
      let form = bounded setting.names setting.program 54 enough f (fit_paid setting.program f fits) in
      omega arith

pub mains_paid : LawOfMainsPaid
mains_paid setting f fits = main_paid setting f fits
