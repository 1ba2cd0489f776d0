-- **What is entered with the words of a list**: they are copied into a block that is lent, it is called, and its word is returned.
use Rattle.std.proofs.Common.{◌≡◌, ℕ, suc, ◌+◌, ◌-◌, ◌*◌, ◌^◌, ◌<◌, ◌≤◌, List, [], ◌∷◌, ◌++◌, length, Option, Some, refl, sym, ap, ◌∙◌, subst, ⊎_elim, arith}
use Rattle.std.specs.Prelude.{slice_set}
use Rattle.std.proofs.lemmas.Bool.{cases_lt}
use Rattle.lang_meaning.specs.Prefixes.{IsPrefix}
use Rattle.lang_meaning.specs.State.{DynamicContext}
use Rattle.lang_meaning.specs.Values.{Value, nil}
use Rattle.flat_language.specs.FlatNodes.{tables}
use Rattle.flat_language.specs.FlatState.{FlatState, FlatEvaluated}
use Rattle.mid_code.specs.Arena.{left}
use Rattle.mid_code.specs.Meaning.{Context, levels, exec, exec_step, give_back}
use Rattle.mid_code.specs.Meaning.{called as mid_called}
use Rattle.mid_code.specs.MidCode.{MidStep, lend, return_word, code_of}
use Rattle.mid_code.specs.State.{Registers, MidState, falls, no_room, ends}
use Rattle.mid_code.specs.State.{charged as mid_charged, go_on as mid_go_on}
use Rattle.mid_code.proofs.Growth.{give_back_grown}
use Rattle.mid_arena.specs.Places.{Places, WordsOf}
use Rattle.mid_arena.specs.Tags.{nil_word}
use Rattle.mid_arena.proofs.Running.{RunsTo, and_then, none_left, costing, parts_then, go_on_last, constant_falls, move_falls}
use Rattle.back_lowering.specs.RoutineCodes.{list_copied}
use Rattle.back_lowering.specs.Steps.{Steps, move, constant}
use Rattle.back_relation.specs.Setting.{Setting}
use Rattle.back_relation.specs.Placed.{IsPlaced}
use Rattle.back_relation.specs.Room.{entry_words}
use Rattle.back_relation.specs.Worlds.{World, Later, Standing}
use Rattle.back_relation.specs.Around.{CallBegins, SiteStored}
use Rattle.back_relation.specs.Ends.{WorldKept, Around, RoomEnded, CallEnds, stopped}
use Rattle.back_relation.specs.Forms.{code_at}
use Rattle.back_relation.specs.Procedures.{called, ArgumentsLent}
use Rattle.back_relation.specs.RoutineClaims.{WordIs}
use Rattle.back_relation.specs.Starts.{FlatGrown}
use Rattle.back_relation.proofs.Parts.{step_then}
use Rattle.back_exits.proofs.Points.{point_begins}
use Rattle.back_calling.specs.Lending.{LentBegins}
use Rattle.back_generics.proofs.Points.{steps_grown}
use Rattle.back_generics.proofs.ListBlocks.{Opened, block_ends}
use Rattle.back_generics.proofs.Copying.{Copied, copies, copying, copy_loop}
use Rattle.back_generics.proofs.Lending.{lend_runs, lend_wanting, at, aligned, at_small, inner_lent, inner_heap, inner_words, block_laid, w_lent, y_lent, opened, site_lent, begins_lent, arguments}
use Rattle.back_generics.proofs.Numbers.{AreDifferent}
use Rattle.back_generics.proofs.Spreads.{Path, numbers, cars}
use Rattle.back_generics.proofs.ListWords.{first_of, ConsesAt, ListWords, list_words, different_words, fewer_conses, conses_kept}

pub many_cars : (cells : List (ℕ × Value)) → length (cars cells) ≡ length cells
many_cars [] = refl
many_cars (c ∷ cs) = ap (λ n. suc n) (many_cars cs)

many_words : (places : Places) (vs : List Value) (ws : List ℕ) → WordsOf places vs ws → length ws ≡ length vs
many_words places [] [] h = refl
many_words places [] (w ∷ ws) h = absurd h
many_words places (v ∷ vs) [] h = absurd h
many_words places (v ∷ vs) (w ∷ ws) h = ap (λ n. suc n) (many_words places vs ws h.1)

-- the memory has no more words than addresses in front of its end
module _ (setting : Setting) (placed : IsPlaced setting) (k t : ℕ) (rs valid : List Standing) (around : DynamicContext) (w : World) (z : FlatState) where
  abbrev c : Context
  c = code_at setting k (suc t)

  abbrev m : ℕ
  m = suc t + 1

  -- what is known at each point
  pub record Here (y : MidState) : Type 0 where
    pub call : CallBegins setting rs valid entry_words w around z y
    pub site : SiteStored setting around y

  pub here_later : {credit : ℕ} {y y' : MidState} → WorldKept setting w w z z y y' → Around setting credit z z y y' → SiteStored setting around y' → Here y → Here y'
  here_later kept back site h = record { call = point_begins setting kept back h.call; site = site }

  -- the registers of the routine
  abbrev pub file : (word list_word : ℕ) → (r2 r3 r4 r5 r6 r7 r8 r9 r10 r11 : Option ℕ) → Registers
  file word list_word r2 r3 r4 r5 r6 r7 r8 r9 r10 r11 = Some word ∷ Some list_word ∷ r2 ∷ r3 ∷ r4 ∷ r5 ∷ r6 ∷ r7 ∷ r8 ∷ r9 ∷ r10 ∷ r11 ∷ []

  module _ (word list_word : ℕ) (cells : List (ℕ × Value)) (list : Value) (path : Path z.state cells list nil) (different : AreDifferent (numbers cells)) (list_is : WordIs setting w list_word list) (few : length cells ≤ t) where
    abbrev vs : List Value
    vs = cars cells

    abbrev n : ℕ
    n = length cells

    -- the words of the list where it is
    there : {y : MidState} → Here y → ListWords w.places y.arena cells nil list_word
    there {y} h = list_words setting.names (tables setting.program) w.places z.state y h.call.things.represents cells list nil list_word path list_is

    module _ (f10 f11 : Option ℕ) (tail : Steps) (number tail_cost c1 : ℕ) (given : ℕ → List ℕ) (r : FlatEvaluated) (grown : FlatGrown z r.state) where
      -- behind the copy the code comes to the call
      pub record Tail (at to : ℕ) (r6 r7 r8 : Option ℕ) (x : MidState) : Type 0 where
        pub regs : Registers
        pub low : 10 < length regs
        pub runs :
            exec c (code_of tail) (file word list_word (Some n) (Some nil_word) (Some to) (Some nil_word) r6 r7 r8 (Some at) f10 f11) x ≡ mid_called (called c number (given at) (mid_charged tail_cost x)) 10 regs

      abbrev whole : MidStep
      whole = lend 9 2 (code_of (list_copied setting.at ++ tail))

      pub block_comes :
          (r3 r4 r5 r6 r7 r8 r9 : Option ℕ) (credit : ℕ) (y : MidState) (h : Here y) → 90 + 54 * n + tail_cost + c1 ≤ credit → (left y.arena < n + 2 → RoomEnded setting setting.limit r.outcome)
          → ((at to : ℕ) (r6' : Option ℕ) (x : MidState) → Tail at to r6' r7 r8 x)
          → ((w1 : World) (at : ℕ) (y1 : MidState) → Later w w1 → LentBegins setting rs valid entry_words (length vs) w1 around z y1 → SiteStored setting around y1 → ArgumentsLent setting w1 y1.arena at vs
          → CallEnds setting c1 m rs valid w1 around z y1 r (called c number (given at) y1))
          → CallEnds setting credit m rs valid w around z y r (exec c (code_of (whole ∷ return_word 10 ∷ [])) (file word list_word (Some n) r3 r4 r5 r6 r7 r8 r9 f10 f11) y)
      block_comes r3 r4 r5 r6 r7 r8 r9 credit y h paid wanting behind inside =
          subst (λ q. CallEnds setting credit m rs valid w around z y r q) (sym (step_then c whole (return_word 10 ∷ []) regs y)) (⊎_elim without with_room (cases_lt (left y.arena) (n + 2)))
        where
          regs : Registers
          regs = file word list_word (Some n) r3 r4 r5 r6 r7 r8 r9 f10 f11

          l : ListWords w.places y.arena cells nil list_word
          l = there h

          last_is : l.behind ≡ nil_word
          last_is = cc l.of_last

          conses : ConsesAt y.arena l.words l.car_words nil_word
          conses = subst (λ u. ConsesAt y.arena l.words l.car_words u) last_is l.conses

          first : list_word ≡ first_of l.words nil_word
          first = l.first ∙ ap (first_of l.words) last_is

          words_differ : AreDifferent l.words
          words_differ = different_words setting.names (tables setting.program) w.places z.state y h.call.things.represents l.words (numbers cells) l.pointers different

          heap_low : y.arena.heap_to ≤ 4 * length y.arena.memory
          heap_low = let room = h.call.things.represents.arena.room in omega (arith, room)

          fewer : n ≤ length y.arena.memory - 1
          fewer = let all = fewer_conses y.arena (length y.arena.memory) l.words l.car_words nil_word heap_low conses words_differ in let many = l.many in omega (arith, all, many)

          small : n < 2 ^ 24
          small = let size = h.call.things.represents.arena.size in omega (arith, fewer, size)

          car_many : length l.car_words ≡ n
          car_many = many_words w.places vs l.car_words l.of_cars ∙ many_cars cells

          without : left y.arena < n + 2 → CallEnds setting credit m rs valid w around z y r (mid_go_on (exec_step c whole regs y) (λ g v. exec c (code_of (return_word 10 ∷ [])) g v))
          without short =
              subst (λ q. CallEnds setting credit m rs valid w around z y r q)
              (sym
              (ap (λ o. mid_go_on o (λ g v. exec c (code_of (return_word 10 ∷ [])) g v)) (lend_wanting c 9 2 n (code_of (list_copied setting.at ++ tail)) regs y refl small short)
              ∙ go_on_last (no_room (n + 2) (left y.arena)) regs (mid_charged 36 y) (λ g v. exec c (code_of (return_word 10 ∷ [])) g v) tt))
              (stopped (record {
                because = (wanting short, short);
                printed = subst (λ ps. IsPrefix ps r.state.state.printed) (sym h.call.things.represents.printed) grown.printed;
                paid = λ ended. omega (arith, grown.units);
              }))

          with_room : n + 2 ≤ left y.arena → CallEnds setting credit m rs valid w around z y r (mid_go_on (exec_step c whole regs y) (λ g v. exec c (code_of (return_word 10 ∷ [])) g v))
          with_room some =
              subst (λ q. CallEnds setting credit m rs valid w around z y r q)
              (sym
              (ap (λ o. mid_go_on o (λ g v. exec c (code_of (return_word 10 ∷ [])) g v))
              (lend_runs c 9 2 n (code_of (list_copied setting.at ++ tail)) regs y refl small some
              ∙ ap (λ o. mid_go_on o (λ g v. give_back (length y.arena.blocks) g v)) run.same)))
              (block_ends setting o c 10 end.regs end.low placed credit (called c number (given at_here) y1) (let sum = copied.is in omega (arith, paid, sum, car_many))
              (λ g v. give_back_grown (length y.arena.blocks) g v) (λ g v. steps_grown setting k (suc t) (return_word 10 ∷ []) g v)
              (inside w1 at_here y1 o.world.later (begins_lent setting placed w z y vs l.car_words n (many_cars cells) car_many h.call.things l.of_cars some total entry_words h.call)
              (site_lent setting placed w z y vs l.car_words n (many_cars cells) car_many h.call.things l.of_cars some total around h.site)
              (arguments setting placed w z y vs l.car_words n (many_cars cells) car_many h.call.things l.of_cars some total)))
            where
              at_here : ℕ
              at_here = at setting placed w z y vs l.car_words n (many_cars cells) car_many h.call.things l.of_cars some

              laid : MidState
              laid = block_laid setting placed w z y vs l.car_words n (many_cars cells) car_many h.call.things l.of_cars some

              before_loop : MidState
              before_loop = mid_charged 18 laid

              copied : Copied setting.procedures (levels setting.procedures setting.turns_each k) (Some word) (Some list_word) (Some n) r7 r8 (Some at_here) f10 f11 (suc t) l.words l.car_words at_here r6 before_loop
              copied =
                  copies setting.procedures (levels setting.procedures setting.turns_each k) (Some word) (Some list_word) (Some n) r7 r8 (Some at_here) f10 f11 l.words l.car_words (suc t) at_here r6 before_loop
                  (conses_kept y.arena before_loop.arena l.words l.car_words nil_word (inner_words setting placed w z y vs l.car_words n (many_cars cells) car_many h.call.things l.of_cars some) refl conses)
                  (let size = h.call.things.represents.arena.size in omega (arith, heap_low, size)) (inner_heap setting placed w z y vs l.car_words n (many_cars cells) car_many h.call.things l.of_cars some)
                  (aligned setting placed w z y vs l.car_words n (many_cars cells) car_many h.call.things l.of_cars some)
                  (let low = at_small setting placed w z y vs l.car_words n (many_cars cells) car_many h.call.things l.of_cars some in omega (arith, low, car_many))
                  (λ p low even. inner_lent setting placed w z y vs l.car_words n (many_cars cells) car_many h.call.things l.of_cars some p (omega (arith, low, car_many)) even)
                  (let many = l.many in omega (arith, many, few))

              total : ℕ
              total = copied.total + tail_cost

              o : Opened setting n w (w_lent setting placed w z y vs l.car_words n (many_cars cells) car_many h.call.things l.of_cars some) z y
                  (y_lent setting placed w z y vs l.car_words n (many_cars cells) car_many h.call.things l.of_cars some total)
              o = opened setting placed w z y vs l.car_words n (many_cars cells) car_many h.call.things l.of_cars some total

              w1 : World
              w1 = w_lent setting placed w z y vs l.car_words n (many_cars cells) car_many h.call.things l.of_cars some

              y1 : MidState
              y1 = y_lent setting placed w z y vs l.car_words n (many_cars cells) car_many h.call.things l.of_cars some total

              behind_copy : MidState
              behind_copy = y_lent setting placed w z y vs l.car_words n (many_cars cells) car_many h.call.things l.of_cars some copied.total

              end : Tail at_here copied.to_then copied.r6_then r7 r8 behind_copy
              end = behind at_here copied.to_then copied.r6_then behind_copy

              first_steps : Steps
              first_steps = move 3 1 ∷ move 4 9 ∷ constant 5 nil_word ∷ []

              first_run : RunsTo c (code_of first_steps) (slice_set regs 9 (Some at_here)) laid (ends falls (copying (Some word) (Some list_word) (Some n) (first_of l.words nil_word) at_here r6 r7 r8 (Some at_here) f10 f11) before_loop)
              first_run = costing {n = laid.cost + 18} (and_then (move_falls (ap (λ x. Some x) first)) (and_then (move_falls refl) (and_then constant_falls none_left))) (omega arith)

              run : RunsTo c (code_of (list_copied setting.at ++ tail)) (slice_set regs 9 (Some at_here)) laid (mid_called (called c number (given at_here) y1) 10 end.regs)
              run = parts_then first_steps (copy_loop ∷ tail) first_run (and_then copied.runs (record { same = end.runs }))
