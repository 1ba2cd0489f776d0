-- What a new function captures comes into a register, and is stored, one part after another.
use Rattle.std.proofs.Common.{◌≡◌, ℕ, ◌+◌, ◌*◌, ◌%◌, ◌^◌, ◌<◌, ◌≤◌, true, List, [], ◌∷◌, ◌++◌, length, Option, Some, None, refl, sym, ap, ◌∙◌, subst, arith}
use Rattle.std.specs.Prelude.{slice_get, slice_set, map}
use Rattle.std.proofs.lemmas.Bool.{eq-eqb, ne_eqb}
use Rattle.std.proofs.Math.ListN.{length-set}
use Rattle.base.specs.AllOf.{AllOf}
use Rattle.base.specs.Arithmetic.{difference32}
use Rattle.lang_meaning.specs.Objects.{Called}
use Rattle.flat_language.specs.declared.place.CapturedKind.{CapturedKind}
use Rattle.flat_language.specs.declared.place.CapturedKind.TheVariants as kind
use Rattle.flat_language.specs.declared.place.ExitPlace.TheVariants as exit_place
use Rattle.flat_language.specs.declared.place.FlatCapture.{FlatCapture}
use Rattle.flat_language.specs.declared.place.FlatCapture.TheVariants as part
use Rattle.flat_language.specs.declared.place.Home.TheVariants as home
use Rattle.flat_language.specs.declared.place.MethodPlace.TheVariants as method_place
use Rattle.flat_language.specs.declared.place.VariablePlace.TheVariants.{Slot, SlotBox, CapturedValue, CapturedBox}
use Rattle.flat_language.specs.FlatStanding.{PartStands, PartsStand}
use Rattle.flat_language.specs.FlatState.{holds, holds_box, Captured, of_value, of_box, of_exit, of_method, captured_part, value_held, box_held, value_in, box_in, exit_in, method_in}
use Rattle.mid_code.specs.declared.operation.Arithmetic.TheVariants as which
use Rattle.mid_code.specs.Arena.{word_in, word_at, with_word}
use Rattle.mid_code.specs.Meaning.{Context}
use Rattle.mid_code.specs.MidCode.{code_of}
use Rattle.mid_code.specs.State.{Registers, register, falls, ends, MidState, with_arena}
use Rattle.mid_code.specs.State.{charged as mid_charged}
use Rattle.mid_arena.specs.Places.{of_other}
use Rattle.mid_arena.specs.Standing.{Apart, in_front, behind}
use Rattle.mid_arena.proofs.Lists.{set_elsewhere}
use Rattle.mid_arena.proofs.Memory.{with_words, word_elsewhere, lent_in_heap, spot_low}
use Rattle.mid_arena.proofs.Registers.{register_here, register_beside}
use Rattle.mid_arena.proofs.Running.{RunsTo, and_then, none_left, constant_falls, move_falls, compute_known, choose_first_falls, choose_second_falls, parts_then}
use Rattle.back_lowering.specs.Codes.{part_into, parts_stored}
use Rattle.back_lowering.specs.Leaves.{captured_into, captured_offset, slot_into, serial_into}
use Rattle.back_lowering.specs.Registers.{of_code, enough_for}
use Rattle.back_lowering.specs.Steps.{Steps, move, store_far}
use Rattle.back_relation.specs.Setting.{Setting}
use Rattle.back_relation.specs.Worlds.{MethodIs}
use Rattle.back_relation.specs.Things.{CapturedIs}
use Rattle.back_relation.specs.Activation.{FormScope, MethodHeld}
use Rattle.back_relation.specs.Placed.{PartPlaced}
use Rattle.back_relation.specs.Forms.{code_at}
use Rattle.back_relation.specs.Points.{Point}
use Rattle.back_relation.proofs.Fitting.{registers_front, registers_behind}
use Rattle.mid_arena.proofs.Representing.{fixed_spot}
use Rattle.std.proofs.lemmas.Bool.{ne_eqb}
use Rattle.back_values.specs.Variables.{CapturedByFunctions}
use Rattle.back_values.proofs.CapturedWords.{PartThere, of_kind, is_value, is_box, is_exit, is_method, part_there}
use Rattle.back_values.proofs.Far.{Loaded, load_far_runs, store_far_runs, charged_twice}
use Rattle.back_values.proofs.NewFunctions.{CapturedAre}
use Rattle.back_values.proofs.SetBoxes.{late_two}
use Rattle.back_values.proofs.Variables.{slot_there, there_is}

module _ (setting : Setting) (s : FormScope) (d m size k n : ℕ) (q : Point setting s d m size) (known : CapturedByFunctions q.z) where
  abbrev c : Context
  c = code_at setting k n

  abbrev steps_of_part : FlatCapture → Steps
  steps_of_part p = part_into setting.names setting.at setting.program s.code (d + 1) p

  abbrev pub taken : FlatCapture → Captured
  taken p = captured_part q.env q.z p

  -- registers of the activation, and words of the heap, are as they were
  pub record AsBefore (regs : Registers) (y : MidState) : Type 0 where
    pub count : length regs ≡ size
    pub registers : (i : ℕ) → i < d → slice_get regs i ≡ slice_get q.regs i
    pub words : (x : ℕ) → x < q.y.arena.heap_to → word_at y.arena x ≡ word_at q.y.arena x

  -- a part is in the register behind d
  record PartDone (p : FlatCapture) (regs : Registers) (y : MidState) : Type 0 where
    pub word : ℕ
    pub is : CapturedIs q.w word (taken p)
    pub after : Registers
    pub here : register (d + 1) after ≡ Some word
    pub count : length after ≡ length regs
    pub below : (i : ℕ) → i < d + 1 → slice_get after i ≡ slice_get regs i
    pub cost : ℕ
    pub within : cost ≤ 64
    pub run : RunsTo c (code_of (steps_of_part p)) regs y (ends falls after (mid_charged cost y))

  module _ (regs : Registers) (y : MidState) (there : d + 1 < size) (old : AsBefore regs y) where
    reads : (r word : ℕ) → r < d → register r q.regs ≡ Some word → register r regs ≡ Some word
    reads r word few e = ap word_in (old.registers r few) ∙ e

    from_loaded : (p : FlatCapture) (word : ℕ) → CapturedIs q.w word (taken p) → Loaded c (steps_of_part p) (d + 1) regs y word → PartDone p regs y
    from_loaded p word is l =
        let within = l.within in
        record {
          word = word;
          is = is;
          after = slice_set regs (d + 1) (Some word);
          here = register_here regs (d + 1) word (omega (arith, there, old.count));
          count = length-set regs (d + 1) (Some word);
          below = λ i few. set_elsewhere regs (d + 1) i (Some word) (λ e. omega (arith, e, few));
          cost = l.cost;
          within = omega (arith, within);
          run = l.run;
        }

    moved : (r word : ℕ) → register r regs ≡ Some word → Loaded c (move (d + 1) r ∷ []) (d + 1) regs y word
    moved r word e = record { cost = 6; within = omega arith; run = and_then (move_falls e) none_left }

    captured_loaded : (i : ℕ) (x : Captured) → (part_here : PartThere q.w q.y.arena (register s.code.function q.regs) i x) → Loaded c (captured_into s.code (d + 1) i) (d + 1) regs y part_here.at.word
    captured_loaded i x part_here =
        let own = q.begins.scope.self.0 in
        load_far_runs c regs y (d + 1) s.code.function (captured_offset i) part_here.pointer part_here.at.word (omega (arith, there, old.count)) (λ e. omega (arith, own, e))
        (reads s.code.function part_here.pointer own part_here.held) part_here.low (old.words (part_here.pointer + captured_offset i) part_here.inside ∙ part_here.at.stands)

    of_captured : (i : ℕ) (x : Captured) → slice_get q.env.captured i ≡ Some x → PartThere q.w q.y.arena (register s.code.function q.regs) i x
    of_captured i x e = part_there setting q.begins.call.things known (register s.code.function q.regs) q.env.captured q.begins.activation.self i x e

    -- ---- the call of the method

    abbrev own_code : Option ℕ → Steps
    own_code o = part_into setting.names setting.at setting.program (record s.code { method = o }) (d + 1) (part.Method method_place.Own)

    record MethodDone (o : Option ℕ) (called : Option Called) : Type 0 where
      pub word : ℕ
      pub is : CapturedIs q.w word (of_method called)
      pub after : Registers
      pub here : register (d + 1) after ≡ Some word
      pub count : length after ≡ length regs
      pub below : (i : ℕ) → i < d + 1 → slice_get after i ≡ slice_get regs i
      pub cost : ℕ
      pub within : cost ≤ 64
      pub run : RunsTo c (code_of (own_code o)) regs y (ends falls after (mid_charged cost y))

    inside : d + 1 < length regs
    inside = omega (arith, there, old.count)

    abbrev regs1 : Registers
    regs1 = slice_set regs (d + 1) (Some 0)

    no_chain : (called : Option Called) → called ≡ None → (o : Option ℕ) (cost : ℕ) → cost ≤ 64 → RunsTo c (code_of (own_code o)) regs y (ends falls regs1 (mid_charged cost y)) → MethodDone o called
    no_chain called e o cost few run = record {
      word = 0;
      is = subst (λ x. CapturedIs q.w 0 (of_method x)) (sym e) refl;
      after = regs1;
      here = register_here regs (d + 1) 0 inside;
      count = length-set regs (d + 1) (Some 0);
      below = λ i low. set_elsewhere regs (d + 1) i (Some 0) (λ e. omega (arith, e, low));
      cost = cost;
      within = few;
      run = run;
    }

    -- the words of a call that is kept stand behind the fixed ones
    kept_low : (start : ℕ) (called : Called) → MethodIs q.w start called → (1 ≤ start) × (start < 2 ^ 26)
    kept_low start called h =
        let stands = q.begins.call.things.methods h.0 start called h.1 in
        let spot = stands.spot in
        let r = q.begins.call.things.represents in
        let two = late_two setting.further spot.number spot.late in
        let end = spot_low r.arena (r.spots (of_other spot.number) _ spot.there) in (
          first (r.apart (of_other 0) (of_other spot.number) fixed_spot (record { address = start; words = 2 + length called.arguments; tag = 0 })
              (ne_eqb 0 spot.number (λ e. omega (arith, e, two))) r.fixed.spot spot.there),
          omega (arith, end),
        )
      where
        first : Apart fixed_spot (record { address = start; words = 2 + length called.arguments; tag = 0 }) → 1 ≤ start
        first (in_front h) = omega (arith, h)
        first (behind h) = absurd (omega (arith, h))

    difference_is : (start : ℕ) → start < 2 ^ 26 → difference32 (start + 8) 8 ≡ start
    difference_is start low = omega (arith, low)

    method_done : (o : Option ℕ) (called : Option Called) → s.keeps_method ≡ true → ((r : ℕ) → o ≡ Some r → r + 2 < d) → MethodHeld setting q.w q.y.arena s.keeps_method q.regs o called → MethodDone o called
    method_done None None keeps own h = no_chain None refl None 6 (omega arith) (and_then constant_falls none_left)
    method_done None (Some called) keeps own h = absurd h
    method_done (Some r) None keeps own h =
        let low = own r refl in
        let chain : register r regs1 ≡ Some 0 = register_beside regs (d + 1) r (Some 0) (λ e. omega (arith, e, low)) ∙ reads r 0 (omega (arith, low)) h.2 in
        let run = and_then {c = c} {rs = regs} {z = y} constant_falls
        (and_then (choose_first_falls chain (register_here regs (d + 1) 0 inside) (eq-eqb 0 0 refl) none_left) none_left) in
        no_chain None refl (Some r) 20 (omega arith)
        (record {
          same = run.same ∙ ap (λ z. ends falls regs1 (mid_charged 2 z)) (charged_twice 6 12 18 y refl) ∙ ap (λ z. ends falls regs1 z) (charged_twice 18 2 20 y refl);
        })
    method_done (Some r) (Some called) keeps own h =
        let low = own r refl in
        let kept = h.kept keeps in
        let start : ℕ = kept.0 in
        let bounds = kept_low start called kept.2 in
        let some = h.chain_stands.some in
        let regs2 : Registers = slice_set regs1 (d + 1) (Some 8) in
        let regs3 : Registers = slice_set regs2 (d + 1) (Some start) in
        let inside1 : d + 1 < length regs1 = omega (arith, inside, length-set regs (d + 1) (Some 0)) in
        let inside2 : d + 1 < length regs2 = omega (arith, inside1, length-set regs1 (d + 1) (Some 8)) in
        let chain : register r regs1 ≡ Some h.chain = register_beside regs (d + 1) r (Some 0) (λ e. omega (arith, e, low)) ∙ reads r h.chain (omega (arith, low)) h.chain_word in
        let arguments : register (r + 2) regs2 ≡ Some (start + 8) =
        register_beside regs1 (d + 1) (r + 2) (Some 8) (λ e. omega (arith, e, low)) ∙ register_beside regs (d + 1) (r + 2) (Some 0) (λ e. omega (arith, e, low))
        ∙ reads (r + 2) h.arguments low h.arguments_word ∙ ap (λ x. Some x) kept.1 in
        let run = and_then {c = c} {rs = regs} {z = y} constant_falls
        (and_then
        (choose_second_falls chain (register_here regs (d + 1) 0 inside) (ne_eqb h.chain 0 (λ e. omega (arith, e, some)))
        (and_then constant_falls
        (and_then (compute_known {how = which.Subtract} arguments (register_here regs1 (d + 1) 8 inside1) (difference_is start bounds.1)) none_left)))
        none_left) in
        record {
          word = start;
          is = (bounds.0, kept.2);
          after = regs3;
          here = register_here regs2 (d + 1) start inside2;
          count = length-set regs2 (d + 1) (Some start) ∙ length-set regs1 (d + 1) (Some 8) ∙ length-set regs (d + 1) (Some 0);
          below = λ i few.
              set_elsewhere regs2 (d + 1) i (Some start) (λ e. omega (arith, e, few)) ∙ set_elsewhere regs1 (d + 1) i (Some 8) (λ e. omega (arith, e, few))
              ∙ set_elsewhere regs (d + 1) i (Some 0) (λ e. omega (arith, e, few));
          cost = 36;
          within = omega arith;
          run = record {
            same = run.same
                ∙ ap (λ z. ends falls regs3 (mid_charged 2 (mid_charged 10 (mid_charged 6 z)))) (charged_twice 6 12 18 y refl)
                ∙ ap (λ z. ends falls regs3 (mid_charged 2 (mid_charged 10 z))) (charged_twice 18 6 24 y refl)
                ∙ ap (λ z. ends falls regs3 (mid_charged 2 z)) (charged_twice 24 10 34 y refl) ∙ ap (λ z. ends falls regs3 z) (charged_twice 34 2 36 y refl);
          };
        }

    -- ---- each part

    part_done : (p : FlatCapture) (x : CapturedKind) → PartStands s.flat p x → PartPlaced setting s.keeps_method p → PartDone p regs y
    part_done (part.Variable (Slot i)) x stands placed =
        let has = q.begins.activation.homes i home.Slot stands.0 in
        let at = slot_there setting s d m size k n q i (holds has.0) has.1 in
        let below = q.begins.scope.slots_below i at.0 at.1 in
        from_loaded (part.Variable (Slot i)) at.2.0 (subst (λ o. CapturedIs q.w at.2.0 (of_value (value_held o))) (sym has.1) at.2.2)
        (subst (λ o. Loaded c (slot_into (d + 1) o) (d + 1) regs y at.2.0) (sym at.1) (moved at.0 at.2.0 (reads at.0 at.2.0 below at.2.1)))
    part_done (part.Variable (SlotBox i)) x stands placed =
        let has = q.begins.activation.homes i home.Boxed stands.0 in
        let at = slot_there setting s d m size k n q i (holds_box has.0) has.1 in
        let below = q.begins.scope.slots_below i at.0 at.1 in
        from_loaded (part.Variable (SlotBox i)) at.2.0 (subst (λ o. CapturedIs q.w at.2.0 (of_box (box_held o))) (sym has.1) at.2.2)
        (subst (λ o. Loaded c (slot_into (d + 1) o) (d + 1) regs y at.2.0) (sym at.1) (moved at.0 at.2.0 (reads at.0 at.2.0 below at.2.1)))
    part_done (part.Variable (CapturedValue i)) x stands placed =
        let found = of_kind s.flat.captured q.env.captured i kind.Value q.begins.activation.kinds stands.0 in
        let v = is_value found.0 found.2 in
        let e : slice_get q.env.captured i ≡ Some (of_value v.0) = found.1 ∙ ap (λ z. Some z) v.1 in
        let at = of_captured i (of_value v.0) e in
        from_loaded (part.Variable (CapturedValue i)) at.at.word (subst (λ o. CapturedIs q.w at.at.word (of_value (value_in o))) (sym e) at.at.is) (captured_loaded i (of_value v.0) at)
    part_done (part.Variable (CapturedBox i)) x stands placed =
        let found = of_kind s.flat.captured q.env.captured i kind.Boxed q.begins.activation.kinds stands.0 in
        let o = is_box found.0 found.2 in
        let e : slice_get q.env.captured i ≡ Some (of_box o.0) = found.1 ∙ ap (λ z. Some z) o.1 in
        let at = of_captured i (of_box o.0) e in
        from_loaded (part.Variable (CapturedBox i)) at.at.word (subst (λ o. CapturedIs q.w at.at.word (of_box (box_in o))) (sym e) at.at.is) (captured_loaded i (of_box o.0) at)
    part_done (part.Exit (exit_place.Own i)) x stands placed =
        let few : i < s.flat.exits = stands.0 in
        let within : i < length s.code.exits = omega (arith, few, q.begins.activation.exit_count, q.begins.activation.flat_count) in
        let own = there_is s.code.exits i within in
        let old = q.begins.activation.exits i own.0 own.1 in
        from_loaded (part.Exit (exit_place.Own i)) old.0 (subst (λ o. CapturedIs q.w old.0 (of_exit o)) (sym old.1) refl)
        (subst (λ o. Loaded c (serial_into (d + 1) o) (d + 1) regs y old.0) (sym own.1)
        (moved own.0.serial old.0 (reads own.0.serial old.0 (q.begins.scope.exits i own.0 own.1).0.0 old.2)))
    part_done (part.Exit (exit_place.Captured i)) x stands placed =
        let found = of_kind s.flat.captured q.env.captured i kind.Exit q.begins.activation.kinds stands.0 in
        let o = is_exit found.0 found.2 in
        let e : slice_get q.env.captured i ≡ Some (of_exit o.0) = found.1 ∙ ap (λ z. Some z) o.1 in
        let at = of_captured i (of_exit o.0) e in
        from_loaded (part.Exit (exit_place.Captured i)) at.at.word (subst (λ o. CapturedIs q.w at.at.word (of_exit (exit_in o))) (sym e) at.at.is) (captured_loaded i (of_exit o.0) at)
    part_done (part.Method method_place.Own) x stands placed =
        let done = method_done s.code.method q.env.method placed (λ r e. (q.begins.scope.method r e).2.0) q.begins.activation.method in
        record {
          word = done.word;
          is = done.is;
          after = done.after;
          here = done.here;
          count = done.count;
          below = done.below;
          cost = done.cost;
          within = done.within;
          run = done.run;
        }
    part_done (part.Method (method_place.Captured i)) x stands placed =
        let found = of_kind s.flat.captured q.env.captured i kind.Method q.begins.activation.kinds stands.0 in
        let o = is_method found.0 found.2 in
        let e : slice_get q.env.captured i ≡ Some (of_method o.0) = found.1 ∙ ap (λ z. Some z) o.1 in
        let at = of_captured i (of_method o.0) e in
        from_loaded (part.Method (method_place.Captured i)) at.at.word (subst (λ o. CapturedIs q.w at.at.word (of_method (method_in o))) (sym e) at.at.is) (captured_loaded i (of_method o.0) at)

  -- ---- all parts, in the words of an object

  pub record PartsDone (b : ℕ) (parts : List FlatCapture) (offset : ℕ) (regs : Registers) (y : MidState) : Type 0 where
    pub words : List ℕ
    pub are : CapturedAre q.w words (map taken parts)
    pub after : Registers
    pub count : length after ≡ length regs
    pub below : (i : ℕ) → i < d + 1 → slice_get after i ≡ slice_get regs i
    pub cost : ℕ
    pub within : cost ≤ 88 * length parts
    pub run : RunsTo c (code_of (parts_stored setting.names setting.at setting.program s.code d (d + 1) offset parts)) regs y
        (ends falls after (with_arena (with_words (b + offset) words y.arena) (mid_charged cost y)))

  -- an object at an address, whose words are in the heap behind what stood
  pub record ObjectHere (b : ℕ) (parts : List FlatCapture) (offset : ℕ) (regs : Registers) (y : MidState) : Type 0 where
    pub pointer : register d regs ≡ Some b
    pub behind : q.y.arena.heap_to ≤ b
    pub from : y.arena.heap_from ≤ b
    pub aligned : (b + offset) % 4 ≡ 0
    pub inside : b + offset + 4 * length parts ≤ y.arena.heap_to
    pub low : y.arena.heap_to ≤ 2 ^ 26

  pub parts_done :
      (b : ℕ) (parts : List FlatCapture) (kinds : List CapturedKind) (offset : ℕ) (regs : Registers) (y : MidState) → d + 1 < size
      → enough_for (of_code (code_of (parts_stored setting.names setting.at setting.program s.code d (d + 1) offset parts))) ≤ size → PartsStand s.flat parts kinds
      → AllOf (PartPlaced setting s.keeps_method) parts → AsBefore regs y → ObjectHere b parts offset regs y → PartsDone b parts offset regs y
  parts_done b [] kinds offset regs y there fits stands placed old at =
      let cost : y.cost ≡ y.cost + 0 = omega arith in
      record {
        words = [];
        are = tt;
        after = regs;
        count = refl;
        below = λ i few. refl;
        cost = 0;
        within = omega arith;
        run = record { same = none_left.same ∙ ap (λ x. ends falls regs (record y { cost = x })) cost };
      }
  parts_done b (p ∷ parts) [] offset regs y there fits stands placed old at = absurd stands
  parts_done b (p ∷ parts) (x ∷ kinds) offset regs y there fits stands placed old at =
      let first : Steps = steps_of_part p in
      let second : Steps = store_far (d + 1) d (d + 1 + 1) offset in
      let third : Steps = parts_stored setting.names setting.at setting.program s.code d (d + 1) (offset + 4) parts in
      let fits1 = registers_behind first (second ++ third) size fits in
      let one = part_done regs y there old p x stands.0 placed.0 in
      let one_within = one.within in
      let y1 : MidState = mid_charged one.cost y in
      let count1 : length one.after ≡ size = one.count ∙ old.count in
      let in_heap = at.inside in
      let stored = store_far_runs c one.after y1 (d + 1) d (d + 1 + 1) offset b one.word
      (subst (λ i. enough_for (of_code (code_of second)) ≤ i) (sym count1) (registers_front second third size fits1)) (λ e. omega (arith, e)) (λ e. omega (arith, e)) one.here
      (ap word_in (one.below d (omega arith)) ∙ at.pointer) (omega (arith, in_heap, at.low))
      (lent_in_heap y.arena (b + offset) at.aligned (omega (arith, at.from)) (omega (arith, in_heap))) in
      let stored_within = stored.within in
      let y2 : MidState = with_arena (with_word (b + offset) one.word y.arena) (mid_charged stored.cost y1) in
      let old2 : AsBefore stored.after y2 = record {
        count = stored.count ∙ count1;
        registers = λ i few. stored.others i (λ e. omega (arith, e, few)) ∙ one.below i (omega (arith, few)) ∙ old.registers i few;
        words = λ w low. word_elsewhere y.arena (b + offset) one.word w at.aligned (ne_eqb (b + offset) w (λ e. omega (arith, e, low, at.behind))) ∙ old.words w low;
      } in
      let next : b + (offset + 4) ≡ b + offset + 4 = omega arith in
      let at2 : ObjectHere b parts (offset + 4) stored.after y2 = record {
        pointer = ap word_in (stored.others d (λ e. omega (arith, e)) ∙ one.below d (omega arith)) ∙ at.pointer;
        behind = at.behind;
        from = at.from;
        aligned = omega (arith, at.aligned);
        inside = omega (arith, in_heap);
        low = at.low;
      } in
      let more = parts_done b parts kinds (offset + 4) stored.after y2 there (registers_behind second third size fits1) stands.1 placed.1 old2 at2 in
      let more_within = more.within in
      let total : ℕ = one.cost + stored.cost + more.cost in
      let costs : y.cost + one.cost + stored.cost + more.cost ≡ y.cost + total = omega arith in
      let run = parts_then first (second ++ third) one.run (parts_then second third stored.run more.run) in
      record {
        words = one.word ∷ more.words;
        are = (one.is, more.are);
        after = more.after;
        count = more.count ∙ stored.count ∙ one.count;
        below = λ i few. more.below i few ∙ stored.others i (λ e. omega (arith, e, few)) ∙ one.below i few;
        cost = total;
        within = omega (arith, one_within, stored_within, more_within);
        run = record {
          same = run.same
              ∙ ap (λ x. ends falls more.after (with_arena (with_words x more.words y2.arena) (mid_charged more.cost y2))) next
              ∙ ap (λ x. ends falls more.after (with_arena (with_words (b + offset + 4) more.words y2.arena) (record y { cost = x }))) costs;
        };
      }
