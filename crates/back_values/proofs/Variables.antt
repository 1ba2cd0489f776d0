-- Variables are read, wherever they are.
use Rattle.std.proofs.Common.{◌≡◌, ℕ, zero, suc, ◌+◌, ◌^◌, ◌<◌, ◌≤◌, List, [], ◌∷◌, ◌++◌, length, Option, Some, None, refl, sym, ap, ◌∙◌, subst, arith}
use Rattle.std.specs.Prelude.{slice_get, slice_set}
use Rattle.std.proofs.lemmas.Option.{slice_get_within}
use Rattle.std.proofs.lemmas.List.{set-set}
use Rattle.lang_meaning.specs.Lookup.{value_at}
use Rattle.lang_meaning.specs.Values.{Value}
use Rattle.flat_language.specs.declared.place.CapturedKind.TheVariants as kind
use Rattle.flat_language.specs.declared.place.Home.TheVariants as home
use Rattle.flat_language.specs.declared.place.VariablePlace.{VariablePlace}
use Rattle.flat_language.specs.declared.place.VariablePlace.TheVariants.{Slot, SlotBox, CapturedValue, CapturedBox}
use Rattle.flat_language.specs.FlatForm.{local}
use Rattle.flat_language.specs.FlatMeaning.{mean}
use Rattle.flat_language.specs.FlatStanding.{VariableStands}
use Rattle.flat_language.specs.FlatState.{FrameSlot, holds, holds_box, Captured, of_value, of_box, FlatState, gives, charged, value_held, box_held, value_in, box_in, value_of}
use Rattle.mid_code.specs.Meaning.{Context, exec}
use Rattle.mid_code.specs.MidCode.{code_of}
use Rattle.mid_code.specs.State.{Registers, register, falls, ends, MidState}
use Rattle.mid_code.specs.State.{charged as mid_charged}
use Rattle.mid_arena.specs.Places.{word_of}
use Rattle.mid_arena.specs.Standing.{ValueAt}
use Rattle.mid_arena.proofs.Registers.{register_here}
use Rattle.mid_arena.proofs.Running.{RunsTo, and_then, none_left, move_falls, load_falls, address_here, parts_then}
use Rattle.back_lowering.specs.Codes.{lower}
use Rattle.back_lowering.specs.Leaves.{slot_into, captured_into, captured_offset, variable_into}
use Rattle.back_lowering.specs.Steps.{Steps, move, load}
use Rattle.back_relation.specs.Setting.{Setting}
use Rattle.back_relation.specs.Worlds.{World, on_heap, BoxIs}
use Rattle.back_relation.specs.Things.{Things}
use Rattle.back_relation.specs.Activation.{FormScope, SlotIs}
use Rattle.back_relation.specs.Ends.{form_credit}
use Rattle.back_relation.specs.Forms.{code_at}
use Rattle.back_relation.specs.Points.{Point, start_at, run, Here}
use Rattle.back_relation.specs.Starts.{Start, EndsAt}
use Rattle.back_relation.proofs.Leaves.{box_low}
use Rattle.back_relation.proofs.Starts.{start_charged, ends_sparing, gives_run}
use Rattle.back_values.specs.Variables.{CapturedByFunctions, KnownPlace, LawOfVariables}
use Rattle.back_values.proofs.Far.{Loaded, load_far_runs, charged_twice}
use Rattle.back_values.proofs.CapturedWords.{PartThere, of_kind, is_value, is_box, part_there}

pub past : {X : Type 0} (xs : List X) (i : ℕ) → slice_get xs i ≡ None → i < length xs → ⊥
past [] i e h = omega arith
past (x ∷ xs) zero e h = absurd (cc e)
past (x ∷ xs) (suc i) e h = past xs i e (omega arith)

-- what there is at a place
pub there_is : {X : Type 0} (xs : List X) (i : ℕ) → i < length xs → (x : X) × (slice_get xs i ≡ Some x)
there_is [] i h = absurd (omega arith)
there_is (x ∷ xs) zero h = (x, refl)
there_is (x ∷ xs) (suc i) h = there_is xs i (omega arith)

-- where the variable's box is, and the word in it
pub record BoxThere (w : World) (z : FlatState) (y : MidState) (i x : ℕ) : Type 0 where
  pub low : x < 2 ^ 26
  pub value : ValueAt w.places y.arena x (value_at (Some i) z.state)

pub box_there : (setting : Setting) {w : World} {z : FlatState} {y : MidState} → Things setting w z y → (i x : ℕ) → BoxIs w i x → BoxThere w z y i x
box_there setting t i x e =
    let stands = t.boxes i (on_heap x) e in record { low = box_low setting t x 1 stands.1; value = stands.0 }

module _ (setting : Setting) (s : FormScope) (d m size k n : ℕ) where
  abbrev start : Point setting s d m size → Start setting
  start p = start_at setting s d m size n p

  -- steps that bring the word of a value into d
  pub gives_loaded :
      {credit : ℕ} (a : Start setting) (c : Context) (ss : Steps) (v : Value) (word : ℕ) → 24 ≤ credit → Loaded c ss a.d a.regs a.y word
      → word_of a.w.places v ≡ Some word → EndsAt setting credit a (gives v a.z) (exec c (code_of ss) a.regs a.y)
  gives_loaded {credit} a c ss v word enough l is =
      let within = l.within in gives_run setting {credit = credit} a v (omega (arith, within, enough)) is l.run

  -- the word at the address that steps bring into d
  pub gives_at :
      {credit : ℕ} (a : Start setting) (c : Context) (ss : Steps) (x : ℕ) (v : Value) → 32 ≤ credit → x < 2 ^ 26 → Loaded c ss a.d a.regs a.y x
      → ValueAt a.w.places a.y.arena x v → EndsAt setting credit a (gives v a.z) (exec c (code_of (ss ++ (load a.d a.d 0 ∷ []))) a.regs a.y)
  gives_at {credit} a c ss x v enough low l at =
      let within = l.within in
      let run : RunsTo c (code_of (ss ++ (load a.d a.d 0 ∷ []))) a.regs a.y
      (ends falls (slice_set (slice_set a.regs a.d (Some x)) a.d (Some at.word)) (mid_charged 8 (mid_charged l.cost a.y))) =
      parts_then ss (load a.d a.d 0 ∷ []) l.run
      (and_then (load_falls (register_here a.regs a.d x a.begins.first) (address_here x (omega (arith, low))) at.stands) none_left) in
      gives_run setting {credit = credit} {cost = l.cost + 8} a v (omega (arith, within, enough)) at.of_value
      (record {
        same = run.same ∙ ap (λ rs. ends falls rs (mid_charged 8 (mid_charged l.cost a.y))) (set-set a.regs a.d (Some x) (Some at.word))
            ∙ ap (λ y. ends falls (slice_set a.regs a.d (Some at.word)) y) (charged_twice l.cost 8 (l.cost + 8) a.y refl);
      })

  -- ---- the four places

  abbrev Reads : VariablePlace → Type 0
  Reads p = (q : Point setting s d m size) → CapturedByFunctions q.z
      → EndsAt setting form_credit (start_charged setting (start q) 1) (gives (value_of p q.env q.z) (charged 1 q.z)) (run setting s d m size k n (variable_into s.code d p) q.regs q.y)

  abbrev ReadsPlain : VariablePlace → Type 0
  ReadsPlain p = (q : Point setting s d m size) → EndsAt setting form_credit (start_charged setting (start q) 1) (gives (value_of p q.env q.z) (charged 1 q.z)) (run setting s d m size k n (variable_into s.code d p) q.regs q.y)

  -- the register of a slot
  pub slot_there :
      (q : Point setting s d m size) (i : ℕ) (f : FrameSlot) → slice_get q.z.frame i ≡ Some f
      → (r : ℕ) × (slice_get s.code.slots i ≡ Some r) × ((word : ℕ) × (register r q.regs ≡ Some word) × SlotIs q.w word f)
  slot_there q i f has =
      let within : i < length s.code.slots = omega (arith, q.begins.activation.slot_count, slice_get_within q.z.frame i f has) in
      let r = there_is s.code.slots i within in
      (r.0, r.1, q.begins.activation.slots i r.0 f r.1 has)

  slot_loaded : (c : Context) (r word : ℕ) (regs : Registers) (y : MidState) → register r regs ≡ Some word → Loaded c (move d r ∷ []) d regs y word
  slot_loaded c r word regs y e = record { cost = 6; within = omega arith; run = and_then (move_falls e) none_left }

  reads_slot : (i : ℕ) → slice_get s.flat.homes i ≡ Some home.Slot → ReadsPlain (Slot i)
  reads_slot i stands q =
      let has = q.begins.activation.homes i home.Slot stands in
      let there = slot_there q i (holds has.0) has.1 in
      subst (λ o. EndsAt setting form_credit (start_charged setting (start q) 1) (gives (value_of (Slot i) q.env q.z) (charged 1 q.z)) (run setting s d m size k n (slot_into d o) q.regs q.y))
      (sym there.1)
      (subst (λ v. EndsAt setting form_credit (start_charged setting (start q) 1) (gives v (charged 1 q.z)) (run setting s d m size k n (slot_into d (Some there.0)) q.regs q.y))
      (sym (ap value_held has.1))
      (gives_loaded {credit = form_credit} (start_charged setting (start q) 1) (code_at setting k n) (move d there.0 ∷ []) has.0 there.2.0 (omega arith)
      (slot_loaded (code_at setting k n) there.0 there.2.0 q.regs q.y there.2.1) there.2.2))

  reads_slot_box : (i : ℕ) → slice_get s.flat.homes i ≡ Some home.Boxed → ReadsPlain (SlotBox i)
  reads_slot_box i stands q =
      let has = q.begins.activation.homes i home.Boxed stands in
      let there = slot_there q i (holds_box has.0) has.1 in
      let box = box_there setting q.begins.call.things has.0 there.2.0 there.2.2 in
      subst (λ o. EndsAt setting form_credit (start_charged setting (start q) 1) (gives (value_of (SlotBox i) q.env q.z) (charged 1 q.z))
      (run setting s d m size k n (slot_into d o ++ (load d d 0 ∷ [])) q.regs q.y))
      (sym there.1)
      (subst (λ v. EndsAt setting form_credit (start_charged setting (start q) 1) (gives v (charged 1 q.z))
      (run setting s d m size k n (slot_into d (Some there.0) ++ (load d d 0 ∷ [])) q.regs q.y))
      (sym (ap (λ o. value_at (box_held o) q.z.state) has.1))
      (gives_at {credit = form_credit} (start_charged setting (start q) 1) (code_at setting k n) (move d there.0 ∷ []) there.2.0 (value_at (Some has.0) q.z.state) (omega arith) box.low
      (slot_loaded (code_at setting k n) there.0 there.2.0 q.regs q.y there.2.1) box.value))

  -- a captured part is loaded
  pub part_loaded :
      (q : Point setting s d m size) (c : Captured) (i : ℕ) → (there : PartThere q.w q.y.arena (register s.code.function q.regs) i c)
      → Loaded (code_at setting k n) (captured_into s.code d i) d q.regs q.y there.at.word
  part_loaded q c i there =
      let own = q.begins.scope.self.0 in
      load_far_runs (code_at setting k n) q.regs q.y d s.code.function (captured_offset i) there.pointer there.at.word q.begins.first (λ e. omega (arith, own, e)) there.held there.low
      there.at.stands

  reads_captured : (i : ℕ) → slice_get s.flat.captured i ≡ Some kind.Value → Reads (CapturedValue i)
  reads_captured i stands q functions =
      let c = of_kind s.flat.captured q.env.captured i kind.Value q.begins.activation.kinds stands in
      let v = is_value c.0 c.2 in
      let found : slice_get q.env.captured i ≡ Some (of_value v.0) = c.1 ∙ ap (λ x. Some x) v.1 in
      let there = part_there setting q.begins.call.things functions (register s.code.function q.regs) q.env.captured q.begins.activation.self i (of_value v.0) found in
      subst (λ u. EndsAt setting form_credit (start_charged setting (start q) 1) (gives u (charged 1 q.z)) (run setting s d m size k n (captured_into s.code d i) q.regs q.y))
      (sym (ap value_in found))
      (gives_loaded {credit = form_credit} (start_charged setting (start q) 1) (code_at setting k n) (captured_into s.code d i) v.0 there.at.word (omega arith) (part_loaded q (of_value v.0) i there)
      there.at.is)

  reads_captured_box : (i : ℕ) → slice_get s.flat.captured i ≡ Some kind.Boxed → Reads (CapturedBox i)
  reads_captured_box i stands q functions =
      let c = of_kind s.flat.captured q.env.captured i kind.Boxed q.begins.activation.kinds stands in
      let o = is_box c.0 c.2 in by o.0 (c.1 ∙ ap (λ x. Some x) o.1)
    where
      by :
          (o : Option ℕ) → slice_get q.env.captured i ≡ Some (of_box o)
          → EndsAt setting form_credit (start_charged setting (start q) 1) (gives (value_of (CapturedBox i) q.env q.z) (charged 1 q.z))
          (run setting s d m size k n (captured_into s.code d i ++ (load d d 0 ∷ [])) q.regs q.y)
      by None found =
          absurd (part_there setting q.begins.call.things functions (register s.code.function q.regs) q.env.captured q.begins.activation.self i (of_box None) found).at.is
      by (Some b) found =
          let there = part_there setting q.begins.call.things functions (register s.code.function q.regs) q.env.captured q.begins.activation.self i (of_box (Some b)) found in
          let box = box_there setting q.begins.call.things b there.at.word there.at.is in
          subst (λ u. EndsAt setting form_credit (start_charged setting (start q) 1) (gives u (charged 1 q.z))
          (run setting s d m size k n (captured_into s.code d i ++ (load d d 0 ∷ [])) q.regs q.y))
          (sym (ap (λ o. value_at (box_in o) q.z.state) found))
          (gives_at {credit = form_credit} (start_charged setting (start q) 1) (code_at setting k n) (captured_into s.code d i) there.at.word (value_at (Some b) q.z.state) (omega arith) box.low
          (part_loaded q (of_box (Some b)) i there) box.value)

  reads : (p : VariablePlace) → VariableStands s.flat p → KnownPlace setting s d m size p → (q : Point setting s d m size)
      → EndsAt setting form_credit (start_charged setting (start q) 1) (gives (value_of p q.env q.z) (charged 1 q.z)) (run setting s d m size k n (variable_into s.code d p) q.regs q.y)
  reads (Slot i) stands known q = reads_slot i stands q
  reads (SlotBox i) stands known q = reads_slot_box i stands q
  reads (CapturedValue i) stands known q = reads_captured i stands q (known q)
  reads (CapturedBox i) stands known q = reads_captured_box i stands q (known q)

  -- **variables**
  pub variable_here : (p : VariablePlace) → VariableStands s.flat p → KnownPlace setting s d m size p → Here setting s d m size k n (local p)
  unfolding mean lower
  variable_here p stands known q = ends_sparing setting {c1 = form_credit} (start q) 1 (omega arith) (omega arith) (reads p stands known q)

pub variables_law : LawOfVariables
variables_law setting s d m size k turns p stands known = variable_here setting s d m size k turns p stands known
