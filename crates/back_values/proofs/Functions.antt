-- Functions that forms make.
use Rattle.std.proofs.Common.{◌≡◌, ℕ, zero, suc, ◌+◌, ◌*◌, ◌^◌, ◌<◌, ◌≤◌, Bool, true, false, List, [], ◌∷◌, ◌++◌, length, Option, Some, None, refl, sym, ap, ◌∙◌, subst, arith}
use Rattle.std.specs.Prelude.{slice_get, slice_set, map, if◌then◌else◌}
use Rattle.std.proofs.lemmas.Bool.Decides.{nat_tests}
use Rattle.std.proofs.lemmas.Option.{slice_get_within}
use Rattle.std.proofs.Math.ListN.{length-set}
use Rattle.std.proofs.lemmas.List.{length-map}
use Rattle.base.specs.AllOf.{AllOf}
use Rattle.base.specs.Arithmetic.{sum32}
use Rattle.lang_meaning.specs.declared.scope.ExitForm.{ExitForm}
use Rattle.lang_meaning.specs.Objects.{function}
use Rattle.lang_meaning.specs.Prefixes.{IsPrefix}
use Rattle.lang_meaning.specs.State.{Limit, words, unlimited, has_room, full, room_left}
use Rattle.lang_meaning.specs.Values.{object}
use Rattle.lang_meaning.specs.Counts.{unit_cost}
use Rattle.flat_language.specs.declared.place.CapturedKind.{CapturedKind}
use Rattle.flat_language.specs.declared.place.CapturedKind.TheVariants as kind
use Rattle.flat_language.specs.declared.place.ExitPlace.TheVariants as exit_place
use Rattle.flat_language.specs.declared.place.FlatCapture.{FlatCapture}
use Rattle.flat_language.specs.declared.place.FlatCapture.TheVariants as part
use Rattle.flat_language.specs.declared.place.VariablePlace.TheVariants.{Slot, SlotBox, CapturedValue, CapturedBox}
use Rattle.flat_language.specs.declared.program.FlatProcedure.{FlatProcedure}
use Rattle.flat_language.specs.FlatExits.{exit_of_part, exits_of_parts, some_exit}
use Rattle.flat_language.specs.FlatForm.{make_function}
use Rattle.flat_language.specs.FlatMeaning.{mean}
use Rattle.flat_language.specs.FlatStanding.{FunctionStands, PartStands, PartsStand}
use Rattle.flat_language.specs.FlatState.{Captured, of_exit, FlatEnvironment, FlatState, FlatEvaluated, gives, charged, captured_part, make_closure, exit_in, under}
use Rattle.mid_code.specs.declared.operation.Arithmetic.TheVariants as which
use Rattle.mid_code.specs.Arena.{word_in, left, with_heap, with_word}
use Rattle.mid_code.specs.Meaning.{Context, exec}
use Rattle.mid_code.specs.MidCode.{MidStep, code_of}
use Rattle.mid_code.specs.State.{Registers, register, falls, no_room, ends, MidState, with_arena}
use Rattle.mid_code.specs.State.{charged as mid_charged}
use Rattle.mid_arena.specs.Tags.{function_header, object_tag}
use Rattle.mid_arena.specs.Standing.{ArenaStands}
use Rattle.mid_arena.proofs.Lists.{set_elsewhere}
use Rattle.mid_arena.proofs.Making.{Room, is_left, is_wanting, room_for, begun}
use Rattle.mid_arena.proofs.Memory.{heap_below, lent_in_heap, grows_with_heap, room_below, word_elsewhere, with_words}
use Rattle.mid_arena.proofs.OwnWords.{function_words}
use Rattle.mid_arena.proofs.Registers.{register_here, register_beside}
use Rattle.mid_arena.proofs.Running.{RunsTo, and_then, and_ends, none_left, constant_falls, request_falls, request_wanting, store_falls, compute_known, address_here, address_up, parts_then}
use Rattle.std.proofs.lemmas.Bool.{ne_eqb}
use Rattle.back_lowering.specs.Codes.{lower, function_code, parts_stored}
use Rattle.back_lowering.specs.Placement.{entry_of_lambda}
use Rattle.back_lowering.specs.Registers.{of_step, of_code, enough_for}
use Rattle.back_lowering.specs.Steps.{Steps, constant, request, store, compute}
use Rattle.back_relation.specs.Setting.{Setting}
use Rattle.back_relation.specs.Worlds.{World}
use Rattle.back_relation.specs.Things.{WithinLimit, IsOfKind, AreOfKinds, MadeBy, AreMadeBy}
use Rattle.back_relation.specs.Around.{RoomFor}
use Rattle.back_relation.specs.Activation.{FormScope}
use Rattle.back_relation.specs.Placed.{IsPlaced, PartPlaced}
use Rattle.back_relation.specs.Room.{words_for_handler}
use Rattle.back_relation.specs.Ends.{RoomEnded, full_there, stopped, form_credit}
use Rattle.back_relation.specs.Forms.{code_at}
use Rattle.back_relation.specs.Points.{Point, start_at, run, Here}
use Rattle.back_relation.specs.Starts.{Start, EndsAt, ReachedFrom}
use Rattle.back_relation.proofs.Activations.{activation_later}
use Rattle.back_relation.proofs.Growth.{same_prefix}
use Rattle.back_relation.proofs.Fitting.{enough_front, enough_behind, registers_front}
use Rattle.back_relation.proofs.Points.{point_after}
use Rattle.back_relation.proofs.Starts.{start_charged, behind, ends_sparing}
use Rattle.back_relation.proofs.Then.{same_world}
use Rattle.back_values.specs.Boxes.{Clean}
use Rattle.back_values.specs.Functions.{LawOfFunctions}
use Rattle.back_values.specs.Variables.{CapturedByFunctions}
use Rattle.back_values.proofs.BoxesMade.{steps_grow, full_printed}
use Rattle.back_values.proofs.CapturedWords.{of_kind, is_exit}
use Rattle.back_values.proofs.Cleaning.{is_clean, reached_clean}
use Rattle.back_values.proofs.FunctionParts.{AsBefore, PartsDone, ObjectHere, parts_done}
use Rattle.back_values.proofs.NewFunctions.{captured_count, words_asked, function_meant, function_is, world_made, around_made, function_world}
use Rattle.back_values.proofs.SetVariables.{given_where}

-- ---- of what kinds parts are, and which forms made exits among them

made_at :
    (w : World) (cs : List Captured) (forms : List (Option ExitForm)) (n : ℕ) (c : Captured) → AreMadeBy w cs forms → slice_get cs n ≡ Some c
    → (f : Option ExitForm) × (slice_get forms n ≡ Some f) × MadeBy w c f
made_at w [] [] n c h e = absurd (cc e)
made_at w [] (f ∷ forms) n c h e = absurd h
made_at w (b ∷ cs) [] n c h e = absurd h
made_at w (b ∷ cs) (f ∷ forms) zero c h e = let same : b ≡ c = cc e in (f, refl, subst (λ x. MadeBy w x f) same h.0)
made_at w (b ∷ cs) (f ∷ forms) (suc n) c h e = made_at w cs forms n c h.1 e

module _ (setting : Setting) (s : FormScope) (d m size : ℕ) (q : Point setting s d m size) where
  abbrev part_of : FlatCapture → Captured
  part_of p = captured_part q.env q.z p

  kind_of : (p : FlatCapture) (x : CapturedKind) → PartStands s.flat p x → IsOfKind x (part_of p)
  kind_of (part.Variable (Slot i)) x stands = subst (λ k. IsOfKind k (part_of (part.Variable (Slot i)))) (sym stands.1) tt
  kind_of (part.Variable (SlotBox i)) x stands = subst (λ k. IsOfKind k (part_of (part.Variable (SlotBox i)))) (sym stands.1) tt
  kind_of (part.Variable (CapturedValue i)) x stands = subst (λ k. IsOfKind k (part_of (part.Variable (CapturedValue i)))) (sym stands.1) tt
  kind_of (part.Variable (CapturedBox i)) x stands = subst (λ k. IsOfKind k (part_of (part.Variable (CapturedBox i)))) (sym stands.1) tt
  kind_of (part.Exit p) x stands = subst (λ k. IsOfKind k (part_of (part.Exit p))) (sym stands.1) tt
  kind_of (part.Method p) x stands = subst (λ k. IsOfKind k (part_of (part.Method p))) (sym stands.1) tt

  pub kinds_of : (parts : List FlatCapture) (kinds : List CapturedKind) → PartsStand s.flat parts kinds → AreOfKinds kinds (map part_of parts)
  kinds_of [] [] h = tt
  kinds_of [] (x ∷ kinds) h = absurd h
  kinds_of (p ∷ parts) [] h = absurd h
  kinds_of (p ∷ parts) (x ∷ kinds) h = (kind_of p x h.0, kinds_of parts kinds h.1)

  made_of : (p : FlatCapture) (x : CapturedKind) → PartStands s.flat p x → MadeBy q.w (part_of p) (exit_of_part s.exits p)
  made_of (part.Variable (Slot i)) x stands = tt
  made_of (part.Variable (SlotBox i)) x stands = tt
  made_of (part.Variable (CapturedValue i)) x stands = tt
  made_of (part.Variable (CapturedBox i)) x stands = tt
  made_of (part.Method p) x stands = tt
  made_of (part.Exit (exit_place.Own i)) x stands = by (slice_get q.env.exits i) refl
    where
      by : (o : Option ℕ) → slice_get q.env.exits i ≡ o → MadeBy q.w (of_exit o) (slice_get s.exits.own i)
      by None e = tt
      by (Some x) e = q.begins.activation.exit_forms i x e
  made_of (part.Exit (exit_place.Captured i)) x stands =
      let found = of_kind s.flat.captured q.env.captured i kind.Exit q.begins.activation.kinds stands.0 in
      let o = is_exit found.0 found.2 in
      let e : slice_get q.env.captured i ≡ Some (of_exit o.0) = found.1 ∙ ap (λ z. Some z) o.1 in
      let f = made_at q.w q.env.captured s.exits.captured i (of_exit o.0) q.begins.activation.made_by e in
      subst (λ z. MadeBy q.w (of_exit (exit_in z)) (some_exit (slice_get s.exits.captured i))) (sym e)
      (subst (λ z. MadeBy q.w (of_exit o.0) (some_exit z)) (sym f.1) f.2)

  pub made_of_parts : (parts : List FlatCapture) (kinds : List CapturedKind) → PartsStand s.flat parts kinds → AreMadeBy q.w (map part_of parts) (exits_of_parts s.exits parts)
  made_of_parts [] [] h = tt
  made_of_parts [] (x ∷ kinds) h = absurd h
  made_of_parts (p ∷ parts) [] h = absurd h
  made_of_parts (p ∷ parts) (x ∷ kinds) h = (made_of p x h.0, made_of_parts parts kinds h.1)

-- parts are what they are in any state with the same frame
part_same : (env : FlatEnvironment) (z : FlatState) (u : ℕ) (p : FlatCapture) → captured_part env (charged u z) p ≡ captured_part env z p
part_same env z u (part.Variable (Slot i)) = refl
part_same env z u (part.Variable (SlotBox i)) = refl
part_same env z u (part.Variable (CapturedValue i)) = refl
part_same env z u (part.Variable (CapturedBox i)) = refl
part_same env z u (part.Exit p) = refl
part_same env z u (part.Method p) = refl

parts_same : (env : FlatEnvironment) (z : FlatState) (u : ℕ) (parts : List FlatCapture) → map (captured_part env (charged u z)) parts ≡ map (captured_part env z) parts
parts_same env z u [] = refl
parts_same env z u (p ∷ parts) =
    ap (λ x. x ∷ map (captured_part env (charged u z)) parts) (part_same env z u p) ∙ ap (λ xs. captured_part env z p ∷ xs) (parts_same env z u parts)

-- ---- words that are asked for

words_within : (l : Limit) (z : FlatState) (cs : List Captured) → has_room l (z.state.heap + z.state.stack + (2 + length cs) + 0) ≡ true → WithinLimit l (words_asked cs z).state
words_within unlimited z cs e = tt
words_within (words m) z cs e =
    let h : z.state.heap + z.state.stack + (2 + length cs) + 0 ≤ m = grind (arith, nat_tests) in
    omega (arith, h)

words_wanting :
    (setting : Setting) (l : Limit) (room n : ℕ) (z : FlatState) (y : MidState) (r : FlatEvaluated) → has_room l (z.state.heap + z.state.stack + n + 0) ≡ true → left y.arena < n
    → RoomFor l room z.state y → RoomEnded setting l r.outcome
words_wanting setting unlimited room n z y r e few h = tt
words_wanting setting (words m) room n z y r e few h =
    let g : z.state.heap + z.state.stack + n + 0 ≤ m = grind (arith, nat_tests) in
    absurd (omega (arith, g, h, few))

step_fits : (s : MidStep) (ss : Steps) (size : ℕ) → enough_for (of_code (code_of (s ∷ ss))) ≤ size → enough_for (of_step s) ≤ size
step_fits s ss size h = let l = enough_front (of_step s) (of_code (code_of ss)) in omega (arith, h, l)

rest_fits : (s : MidStep) (ss : Steps) (size : ℕ) → enough_for (of_code (code_of (s ∷ ss))) ≤ size → enough_for (of_code (code_of ss)) ≤ size
rest_fits s ss size h = let l = enough_behind (of_step s) (of_code (code_of ss)) in omega (arith, h, l)

module _ (setting : Setting) (placed : IsPlaced setting) (s : FormScope) (d m size k n p : ℕ) (parts : List FlatCapture) where
  abbrev start : Point setting s d m size → Start setting
  start q = start_at setting s d m size n q

  abbrev c : Context
  c = code_at setting k n

  abbrev many : ℕ
  many = 2 + length parts

  abbrev entry : ℕ
  entry = entry_of_lambda setting.at p

  abbrev parts_steps : Steps
  parts_steps = parts_stored setting.names setting.at setting.program s.code d (d + 1) 8 parts

  abbrev last_steps : Steps
  last_steps = constant (d + 1) object_tag ∷ compute d which.Add d (d + 1) ∷ []

  abbrev all_steps : Steps
  all_steps = function_code setting.names setting.at setting.program s.code d p parts

  abbrev header_steps : Steps
  header_steps =
      constant d many ∷ request d d ∷ constant (d + 1) function_header ∷ store (d + 1) d 0 ∷ constant (d + 1) entry ∷ store (d + 1) d 4 ∷ []

  pointer_sum : (b : ℕ) → b ≤ 2 ^ 26 → sum32 b 2 ≡ b + 2
  pointer_sum b low = omega (arith, low)

  module _ (q : Point setting s d m size) (known : CapturedByFunctions q.z) (there : d + 1 < size) (fits : enough_for (of_code (code_of parts_steps)) ≤ size)
      (kinds : List CapturedKind) (stands : PartsStand s.flat parts kinds) (parts_placed : AllOf (PartPlaced setting s.keeps_method) parts) (some : many ≤ left q.y.arena) where
    abbrev b : ℕ
    b = q.y.arena.heap_to

    arena : ArenaStands q.y.arena
    arena = q.begins.call.things.represents.arena

    low : b ≤ 2 ^ 26
    low = heap_below arena

    abbrev regs1 : Registers
    regs1 = slice_set q.regs d (Some many)

    abbrev regs2 : Registers
    regs2 = slice_set regs1 d (Some b)

    abbrev regs3 : Registers
    regs3 = slice_set regs2 (d + 1) (Some function_header)

    abbrev regs4 : Registers
    regs4 = slice_set regs3 (d + 1) (Some entry)

    abbrev header_state : MidState
    header_state = record q.y { arena = with_word (b + 4) entry (with_word b function_header (with_heap many q.y.arena)); cost = q.y.cost + 54 }

    count2 : length regs2 ≡ size
    count2 = length-set regs1 d (Some b) ∙ length-set q.regs d (Some many) ∙ q.count

    count3 : length regs3 ≡ size
    count3 = length-set regs2 (d + 1) (Some function_header) ∙ count2

    count4 : length regs4 ≡ size
    count4 = length-set regs3 (d + 1) (Some entry) ∙ count3

    pointer2 : register d regs2 ≡ Some b
    pointer2 = register_here regs1 d b (omega (arith, there, q.count, length-set q.regs d (Some many)))

    pointer3 : register d regs3 ≡ Some b
    pointer3 = register_beside regs2 (d + 1) d (Some function_header) (λ e. omega (arith, e)) ∙ pointer2

    pointer4 : register d regs4 ≡ Some b
    pointer4 = register_beside regs3 (d + 1) d (Some entry) (λ e. omega (arith, e)) ∙ pointer3

    headed : (rest : Steps)
        → exec c (code_of (constant d many ∷ request d d ∷ constant (d + 1) function_header ∷ store (d + 1) d 0 ∷ constant (d + 1) entry ∷ store (d + 1) d 4 ∷ rest)) q.regs q.y
        ≡ exec c (code_of rest) regs4 header_state
    headed rest =
        let run = and_then {c = c} {rs = q.regs} {z = q.y} constant_falls
        (and_then (request_falls (register_here q.regs d many (omega (arith, there, q.count))) some)
        (and_then constant_falls
        (and_then
        (store_falls (register_here regs2 (d + 1) function_header (omega (arith, there, count2))) pointer3 (address_here b (omega (arith, low)))
        (lent_in_heap (with_heap many q.y.arena) b arena.aligned (omega (arith, arena.heap)) (omega arith)))
        (and_then constant_falls
        (and_then
        (store_falls (register_here regs3 (d + 1) entry (omega (arith, there, count3))) pointer4 (address_up b 4 (omega (arith, low)))
        (lent_in_heap (with_word b function_header (with_heap many q.y.arena)) (b + 4) (omega (arith, arena.aligned)) (omega (arith, arena.heap)) (omega arith)))
        (record { same = refl })))))) in
        let cost : q.y.cost + 6 + 20 + 6 + 8 + 6 + 8 ≡ q.y.cost + 54 = omega arith in
        run.same ∙ ap (λ x. exec c (code_of rest) regs4 (record header_state { cost = x })) cost

    as_before : AsBefore setting s d m size k n q known regs4 header_state
    as_before = record {
      count = count4;
      registers = λ i few.
          set_elsewhere regs3 (d + 1) i (Some entry) (λ e. omega (arith, e, few)) ∙ set_elsewhere regs2 (d + 1) i (Some function_header) (λ e. omega (arith, e, few))
          ∙ set_elsewhere regs1 d i (Some b) (λ e. omega (arith, e, few)) ∙ set_elsewhere q.regs d i (Some many) (λ e. omega (arith, e, few));
      words = λ x few.
          word_elsewhere (with_word b function_header (with_heap many q.y.arena)) (b + 4) entry x (omega (arith, arena.aligned)) (ne_eqb (b + 4) x (λ e. omega (arith, e, few)))
          ∙ word_elsewhere (with_heap many q.y.arena) b function_header x arena.aligned (ne_eqb b x (λ e. omega (arith, e, few)))
          ∙ (grows_with_heap many arena some).heap.words x few;
    }

    object_here : ObjectHere setting s d m size k n q known b parts 8 regs4 header_state
    object_here = record {
      pointer = pointer4;
      behind = omega arith;
      from = omega (arith, arena.heap);
      aligned = omega (arith, arena.aligned);
      inside = omega arith;
      low = let end = room_below many arena some in omega (arith, end, arena.size);
    }

    done_parts : PartsDone setting s d m size k n q known b parts 8 regs4 header_state
    done_parts = parts_done setting s d m size k n q known b parts kinds 8 regs4 header_state there fits stands parts_placed as_before object_here

    abbrev cs : List Captured
    cs = map (captured_part q.env q.z) parts

    abbrev ws : List ℕ
    ws = done_parts.words

    abbrev cost : ℕ
    cost = 54 + done_parts.cost + 16

    count_words : length ws ≡ length cs
    count_words = captured_count q.w ws cs done_parts.are

    count_parts : length cs ≡ length parts
    count_parts = length-map parts (captured_part q.env q.z)

    abbrev regs5 : Registers
    regs5 = slice_set (slice_set done_parts.after (d + 1) (Some 2)) d (Some (b + 2))

    count5 : length done_parts.after ≡ size
    count5 = done_parts.count ∙ count4

    abbrev end_state : MidState
    end_state = record q.y { arena = begun (2 + length ws) (function_words entry ws) q.y.arena; cost = q.y.cost + cost }

    ran : exec c (code_of all_steps) q.regs q.y ≡ ends falls regs5 end_state
    ran =
        let parts_state : MidState = with_arena (with_words (b + 8) ws header_state.arena) (mid_charged done_parts.cost header_state) in
        let pointer : register d done_parts.after ≡ Some b = ap word_in (done_parts.below d (omega arith)) ∙ pointer4 in
        let run = parts_then {c = c} parts_steps last_steps done_parts.run
        (and_then constant_falls
        (and_then
        (compute_known {how = which.Add} (register_beside done_parts.after (d + 1) d (Some 2) (λ e. omega (arith, e)) ∙ pointer)
        (register_here done_parts.after (d + 1) 2 (omega (arith, there, count5))) (pointer_sum b low)) none_left)) in
        let words_same : many ≡ 2 + length ws = omega (arith, count_words, count_parts) in
        let place : b + 8 ≡ b + 4 + 4 = omega arith in
        let costs : q.y.cost + 54 + done_parts.cost + 6 + 10 ≡ q.y.cost + cost = omega arith in
        headed (parts_steps ++ last_steps) ∙ run.same
        ∙ ap (λ x. ends falls regs5 (record q.y { arena = with_words (b + 8) ws (with_word (b + 4) entry (with_word b function_header (with_heap many q.y.arena))); cost = x })) costs
        ∙ ap (λ x. ends falls regs5 (record q.y { arena = with_words x ws (with_word (b + 4) entry (with_word b function_header (with_heap many q.y.arena))); cost = q.y.cost + cost })) place
        ∙ ap (λ x. ends falls regs5 (record q.y { arena = with_words (b + 4 + 4) ws (with_word (b + 4) entry (with_word b function_header (with_heap x q.y.arena))); cost = q.y.cost + cost })) words_same

    -- the function is there
    function_there :
        Clean q.w q.y → (row : FlatProcedure) → slice_get setting.program.lambdas p ≡ Some row → kinds ≡ row.captured
        → slice_get setting.leads.functions p ≡ Some (exits_of_parts s.exits parts) → WithinLimit setting.limit (words_asked cs q.z).state
        → EndsAt setting form_credit (start q) (gives (object (length q.z.state.store)) (function_meant p cs q.z)) (run setting s d m size k n all_steps q.regs q.y)
    function_there clean row at same lead within =
        let few = done_parts.within in
        let t = q.begins.call.things in
        let kinds_are = subst (λ ks. AreOfKinds ks cs) same (kinds_of setting s d m size q parts kinds stands) in
        let made_by = made_of_parts setting s d m size q parts kinds stands in
        let room : 2 + length ws ≤ left q.y.arena = omega (arith, some, count_words, count_parts) in
        let cheap : cost ≤ unit_cost * (2 + length cs) = omega (arith, few, count_parts) in
        let forms : List (Option ExitForm) = exits_of_parts s.exits parts in
        let world = world_made setting placed t clean p ws cs cost row at kinds_are forms lead made_by done_parts.are room within cheap in
        let back = around_made setting placed t clean p ws cs cost row at kinds_are forms lead made_by done_parts.are room within cheap in
        let regs_same : (i : ℕ) → i < d → slice_get regs5 i ≡ slice_get q.regs i =
        λ i low_i.
        set_elsewhere (slice_set done_parts.after (d + 1) (Some 2)) d i (Some (b + 2)) (λ e. omega (arith, e, low_i))
        ∙ set_elsewhere done_parts.after (d + 1) i (Some 2) (λ e. omega (arith, e, low_i)) ∙ done_parts.below i (omega (arith, low_i)) ∙ as_before.registers i low_i in
        let counts : length regs5 ≡ length q.regs =
        length-set (slice_set done_parts.after (d + 1) (Some 2)) d (Some (b + 2)) ∙ length-set done_parts.after (d + 1) (Some 2) ∙ count5 ∙ sym q.count in
        let reached : ReachedFrom setting 0 (start q) d (function_world setting placed t clean p ws cs cost row at kinds_are forms lead made_by done_parts.are room within cheap) (function_meant p cs q.z) regs5 end_state = record {
          kept = record {
            world = world;
            activation =
                activation_later setting {d = d} {y = q.y} world.later (same_world setting world back) refl (λ i ds e. kept_under i ds e)
                (λ i low_i. ap word_in (regs_same i low_i)) q.begins.scope q.begins.activation;
            registers = record { count = counts; same = λ i low_i free. regs_same i low_i };
          };
          back = back;
        } in
        subst (λ o. EndsAt setting form_credit (start q) (gives (object (length q.z.state.store)) (function_meant p cs q.z)) o) (sym ran)
        (given_where setting placed s d m size k n (start q) reached (object (length q.z.state.store)) (b + 2) (omega arith)
        (register_here (slice_set done_parts.after (d + 1) (Some 2)) d (b + 2) (omega (arith, there, count5, length-set done_parts.after (d + 1) (Some 2))))
        (function_is setting placed t clean p ws cs cost row at kinds_are forms lead made_by done_parts.are room within cheap))
      where
        kept_under : (i : ℕ) (ds : List Captured) → under i q.z.captured ≡ Some ds → under i ((length q.z.state.store, cs) ∷ q.z.captured) ≡ Some ds
        kept_under i ds e =
            let f = known i ds e in
            let few = slice_get_within q.z.state.store i (function f.0) f.1 in
            ap (λ t. if t then Some cs else under i q.z.captured) (ne_eqb i (length q.z.state.store) (λ at. omega (arith, at, few))) ∙ e

  -- the words are there, or they are not
  module _ (q : Point setting s d m size) (known : CapturedByFunctions q.z) (clean : Clean q.w q.y) (fits : enough_for (of_code (code_of all_steps)) ≤ size) (row : FlatProcedure)
      (at : slice_get setting.program.lambdas p ≡ Some row) (stands : PartsStand s.flat parts row.captured) (lead : slice_get setting.leads.functions p ≡ Some (exits_of_parts s.exits parts))
      (parts_placed : AllOf (PartPlaced setting s.keeps_method) parts) where
    abbrev captured_parts : List Captured
    captured_parts = map (captured_part q.env q.z) parts

    as_many : length captured_parts ≡ length parts
    as_many = length-map parts (captured_part q.env q.z)

    abbrev steps6 : Steps
    steps6 = store (d + 1) d 4 ∷ (parts_steps ++ last_steps)

    abbrev steps5 : Steps
    steps5 = constant (d + 1) entry ∷ steps6

    abbrev steps4 : Steps
    steps4 = store (d + 1) d 0 ∷ steps5

    abbrev steps3 : Steps
    steps3 = constant (d + 1) function_header ∷ steps4

    fits3 : enough_for (of_code (code_of steps3)) ≤ size
    fits3 = rest_fits (request d d) steps3 size (rest_fits (constant d many) (request d d ∷ steps3) size fits)

    there : d + 1 < size
    there = let one = step_fits (constant (d + 1) function_header) steps4 size fits3 in omega (arith, one)

    fits_parts : enough_for (of_code (code_of parts_steps)) ≤ size
    fits_parts =
        registers_front parts_steps last_steps size
        (rest_fits (store (d + 1) d 4) (parts_steps ++ last_steps) size
        (rest_fits (constant (d + 1) entry) steps6 size (rest_fits (store (d + 1) d 0) steps5 size (rest_fits (constant (d + 1) function_header) steps4 size fits3))))

    with_words_left :
        has_room setting.limit (q.z.state.heap + q.z.state.stack + (2 + length captured_parts) + 0) ≡ true → Room many q.y.arena
        → EndsAt setting form_credit (start q) (gives (object (length q.z.state.store)) (function_meant p captured_parts q.z)) (run setting s d m size k n all_steps q.regs q.y)
    with_words_left e (is_left some) =
        function_there q known there fits_parts row.captured stands parts_placed some clean row at refl lead (words_within setting.limit q.z captured_parts e)
    with_words_left e (is_wanting few) =
        let run_to : RunsTo c (code_of all_steps) q.regs q.y (ends (no_room many (left q.y.arena)) (slice_set q.regs d (Some many)) (mid_charged 20 (mid_charged 6 q.y))) =
        and_then constant_falls (and_ends tt (request_wanting (register_here q.regs d many (omega (arith, there, q.count))) few)) in
        let few' : left q.y.arena < 2 + length captured_parts = omega (arith, few, as_many) in
        subst (λ o. EndsAt setting form_credit (start q) (gives (object (length q.z.state.store)) (function_meant p captured_parts q.z)) o) (sym run_to.same)
        (stopped (record {
          because = (
            words_wanting setting setting.limit (m + words_for_handler * length q.around.handlers) (2 + length captured_parts) q.z q.y
                (gives (object (length q.z.state.store)) (function_meant p captured_parts q.z)) e few' q.begins.call.room,
            few,
          );
          printed = subst (λ x. IsPrefix x q.z.state.printed) (sym q.begins.call.things.represents.printed) (same_prefix q.z.state.printed);
          paid = λ ended. omega arith;
        }))

    made_or_not :
        EndsAt setting form_credit (start q) (make_closure setting.limit p captured_parts q.z (λ v after. gives v after)) (run setting s d m size k n all_steps q.regs q.y)
    made_or_not = by (has_room setting.limit (q.z.state.heap + q.z.state.stack + (2 + length captured_parts) + 0)) refl
      where
        by :
            (t : Bool) → has_room setting.limit (q.z.state.heap + q.z.state.stack + (2 + length captured_parts) + 0) ≡ t
            → EndsAt setting form_credit (start q)
            (if t then gives (object (length q.z.state.store)) (function_meant p captured_parts q.z)
            else record { outcome = full (2 + length captured_parts + 0) (room_left setting.limit (q.z.state.heap + q.z.state.stack)); state = q.z })
            (run setting s d m size k n all_steps q.regs q.y)
        by true e = with_words_left e (room_for many q.y.arena)
        by false e =
            full_there (record {
              asked = 2 + length captured_parts + 0;
              left_then = room_left setting.limit (q.z.state.heap + q.z.state.stack);
              outcome = refl;
              printed =
                  full_printed q.z q.y (run setting s d m size k n all_steps q.regs q.y) q.begins.call.things.represents.printed (steps_grow setting k n all_steps q.regs q.y);
            })

  -- **a function that a form makes**
  pub function_here :
      (first : ℕ) → FunctionStands setting.program.lambdas s.flat first p parts → slice_get setting.leads.functions p ≡ Some (exits_of_parts s.exits parts)
      → AllOf (PartPlaced setting s.keeps_method) parts → ((q : Point setting s d m size) → CapturedByFunctions q.z) → enough_for (of_code (code_of all_steps)) ≤ size
      → Here setting s d m size k n (make_function p parts)
  unfolding mean lower
  function_here first stands lead parts_placed known fits q =
      let units : ℕ = 1 + length parts in
      let a : Start setting = start_charged setting (start q) units in
      let b : Point setting s d m size = record {
        rs = q.rs;
        valid = q.valid;
        w = q.w;
        env = q.env;
        around = q.around;
        z = charged units q.z;
        regs = q.regs;
        y = q.y;
        begins = a.begins;
        count = q.count;
      } in
      let r = reached_clean setting (start b) in
      let e : Point setting s d m size = point_after setting s d m size n b r in
      ends_sparing setting {c1 = form_credit} (start q) units (omega arith) (omega arith)
      (behind setting {c1 = 0} {c2 = form_credit} (start b) d (omega arith) r (omega arith) (omega arith)
      (subst (λ (xs : List Captured). EndsAt setting form_credit (start e) (make_closure setting.limit p xs (charged units q.z) (λ v after. gives v after)) (run setting s d m size k n all_steps q.regs q.y))
      (parts_same q.env q.z units parts)
      (made_or_not e (known e) (is_clean setting b.begins.call.things) fits stands.procedure stands.there stands.parts_stand lead parts_placed)))

pub functions_law : LawOfFunctions
functions_law setting s d m size k turns first p parts placed stands lead parts_placed known fits =
    function_here setting placed s d m size k turns p parts first stands lead parts_placed known fits
