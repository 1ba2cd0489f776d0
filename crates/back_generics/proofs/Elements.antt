-- **The elements of a list** are found one behind another: a cursor passes each cons once, a turn of the loop for each.
use Rattle.std.proofs.Common.{◌≡◌, ℕ, zero, suc, ◌+◌, ◌*◌, ◌^◌, ◌<◌, ◌≤◌, List, [], ◌∷◌, length, Option, Some, None, refl, sym, ap, ◌∙◌, subst, arith}
use Rattle.std.specs.Prelude.{◌-◌, not, slice_index_or}
use Rattle.std.proofs.lemmas.Bool.{eq-eqb, ne_eqb}
use Rattle.lang_meaning.specs.Objects.{cons}
use Rattle.lang_meaning.specs.State.{DynamicContext}
use Rattle.lang_meaning.specs.Values.{Value, nil}
use Rattle.flat_language.specs.FlatNodes.{tables}
use Rattle.flat_language.specs.FlatState.{FlatState}
use Rattle.mid_code.specs.declared.operation.Arithmetic.TheVariants as which
use Rattle.mid_code.specs.Arena.{word_at}
use Rattle.mid_code.specs.Meaning.{levels, exec_step}
use Rattle.mid_code.specs.MidCode.{MidStep}
use Rattle.mid_code.specs.State.{Registers, falls, ends, MidState}
use Rattle.mid_arena.specs.Places.{word_of}
use Rattle.mid_arena.proofs.Arguments.{object_found}
use Rattle.mid_arena.proofs.Growing.{spot_below}
use Rattle.mid_arena.proofs.Running.{StepsTo, turning, and_then, none_left, costing, constant_falls, compute_known, load_falls, repeat_falls, repeat_turn, address_above, address_below}
use Rattle.mid_arena.proofs.WordFacts.{sum_fits}
use Rattle.back_lowering.specs.RoutineCodes.{turns_while, element_into}
use Rattle.back_lowering.specs.Steps.{constant, compute, load}
use Rattle.back_relation.specs.Setting.{Setting}
use Rattle.back_relation.specs.Placed.{IsPlaced}
use Rattle.back_relation.specs.RoutineClaims.{WordIs}
use Rattle.back_relation.specs.Things.{Things}
use Rattle.back_relation.specs.Worlds.{World, Standing}
use Rattle.back_generics.proofs.Sought.{Found, Finding}
use Rattle.back_generics.proofs.Entering.{Here, here_later, many_cars}
use Rattle.back_generics.proofs.Spreads.{Path, cars}

abbrev walk_loop : MidStep
walk_loop = turns_while [] 11 7 (load 10 10 3 ∷ constant 8 4 ∷ compute 11 which.Add 11 8 ∷ [])

module _ (setting : Setting) (w : World) (z : FlatState) (cells : List (ℕ × Value)) where
  abbrev vs : List Value
  vs = cars cells

  -- the cursor is at the cons in front of which there are so many: its word and its offset are in registers
  pub record Cursor (place : ℕ) (others : Registers) : Type 0 where
    pub word : ℕ
    pub registers : others ≡ None ∷ Some word ∷ Some (4 * place) ∷ []
    pub from : Value
    pub cells_left : List (ℕ × Value)
    pub path : Path z.state cells_left from nil
    pub is : WordIs setting w word from
    pub same : (j : ℕ) → slice_index_or (cars cells_left) j nil ≡ slice_index_or vs (place + j) nil
    pub many : place + length cells_left ≡ length cells

  -- it begins at the first one
  pub at_first : (list : Value) (word : ℕ) → Path z.state cells list nil → WordIs setting w word list → Cursor 0 (None ∷ Some word ∷ Some 0 ∷ [])
  at_first list word path is = record {
    word = word;
    registers = refl;
    from = list;
    cells_left = cells;
    path = path;
    is = is;
    same = λ j. let e : j ≡ 0 + j = omega arith in ap (λ i. slice_index_or vs i nil) e;
    many = omega arith;
  }

  module _ (k : ℕ) (y : MidState) (things : Things setting w z y) (r0 r1 r2 : Option ℕ) (count a total : ℕ) (few_cells : length cells < 2 ^ 26) where
    abbrev walking : (i : ℕ) → Option ℕ → (word place : ℕ) → Registers
    walking i r8 word place = r0 ∷ r1 ∷ r2 ∷ Some count ∷ Some a ∷ Some total ∷ Some 0 ∷ Some (4 * i) ∷ r8 ∷ None ∷ Some word ∷ Some (4 * place) ∷ []

    -- a cons is reached, and what its car is
    record Walked (t i gap : ℕ) (r8 : Option ℕ) (word place cost : ℕ) : Type 0 where
      pub word_then : ℕ
      pub r8_then : Option ℕ
      pub cursor : Cursor i (None ∷ Some word_then ∷ Some (4 * i) ∷ [])
      pub car : ℕ
      pub of_value : WordIs setting w car (slice_index_or vs i nil)
      pub at : ℕ
      pub here : word_then ≡ at + 1
      pub low : at + 8 ≤ y.arena.heap_to
      pub first : word_at y.arena at ≡ Some car
      pub runs :
          StepsTo (turning setting.procedures (levels setting.procedures setting.turns_each k) t) walk_loop (walking i r8 word place) (record y { cost = cost })
          (ends falls (walking i r8_then word_then i) (record y { cost = cost + 38 * gap + 12 }))

    heap_small : y.arena.heap_to ≤ 2 ^ 26
    heap_small = let size = things.represents.arena.size in let room = things.represents.arena.room in omega (arith, size, room)

    walks :
        (gap place i t : ℕ) (r8 : Option ℕ) (from : Value) (word : ℕ) (cs : List (ℕ × Value)) (cost : ℕ) → place + gap ≡ i → Path z.state cs from nil → WordIs setting w word from
        → ((j : ℕ) → slice_index_or (cars cs) j nil ≡ slice_index_or vs (place + j) nil) → place + length cs ≡ length cells → i < length cells → gap ≤ t → Walked t i gap r8 word place cost
    walks zero place i t r8 from word [] cost e path is same many low enough = absurd (omega (arith, e, many, low))
    walks zero place i t r8 from word (c ∷ cs) cost e path is same many low enough =
        subst (λ j. Walked t j zero r8 word place cost) here
        (let it = object_found setting.names (tables setting.program) w.places z.state y things.represents from word (cons c.1 path.0) is path.2 in
        let at = it.word in
        let below = spot_below things.represents.arena it.spot_stands in
        let size = it.stands.size.words in
        record {
          word_then = word;
          r8_then = r8;
          cursor = record { word = word; registers = refl; from = from; cells_left = c ∷ cs; path = path; is = is; same = same; many = many };
          car = it.stands.car.word;
          of_value = ap (word_of w.places) (sym (same 0 ∙ ap (λ j. slice_index_or vs j nil) no_more)) ∙ it.stands.car.of_value;
          at = it.spot.address;
          here = at;
          low = omega (arith, below, size);
          first = it.stands.car.stands;
          runs =
              record {
                same =
                    (repeat_falls {rs' = walking place r8 word place} {z' = record y { cost = cost }} none_left refl refl (ap not (eq-eqb (4 * place) (4 * place) refl))).same
                    ∙ ap (λ b. ends falls (walking place r8 word place) (record y { cost = b })) (omega arith);
              };
        })
      where
        here : place ≡ i
        here = omega (arith, e)

        no_more : place + 0 ≡ place
        no_more = omega arith
    walks (suc gap) place i zero r8 from word cs cost e path is same many low enough = absurd (omega (arith, enough))
    walks (suc gap) place i (suc t) r8 from word [] cost e path is same many low enough = absurd (omega (arith, e, many, low))
    walks (suc gap) place i (suc t) r8 from word (c ∷ cs) cost e path is same many low enough =
        let it = object_found setting.names (tables setting.program) w.places z.state y things.represents from word (cons c.1 path.0) is path.2 in
        let at = it.word in
        let below = spot_below things.represents.arena it.spot_stands in
        let size = it.stands.size.words in
        let small = heap_small in
        let cdr : ℕ = it.stands.cdr.word in
        let rest : Walked t i gap (Some 4) cdr (suc place) (cost + 38) =
        walks gap (suc place) i t (Some 4) path.0 cdr cs (cost + 38) (omega (arith, e)) path.3 it.stands.cdr.of_value
        (λ j. same (suc j) ∙ ap (λ n. slice_index_or vs n nil) (next_place j)) (omega (arith, many)) low (omega (arith, enough)) in
        record {
          word_then = rest.word_then;
          r8_then = rest.r8_then;
          cursor = rest.cursor;
          car = rest.car;
          of_value = rest.of_value;
          at = rest.at;
          here = rest.here;
          low = rest.low;
          first = rest.first;
          runs =
              repeat_turn setting.procedures (levels setting.procedures setting.turns_each k) t {r = ends falls (walking i rest.r8_then rest.word_then i) (record y { cost = cost + 38 * suc gap + 12 })} none_left refl refl
              (ap not (ne_eqb (4 * place) (4 * i) (λ f. omega (arith, e, f))))
              (costing {n = cost + 36}
              (and_then (load_falls refl (address_above word 3 (it.spot.address + 4) (omega (arith, at)) (omega (arith, below, size, small))) it.stands.cdr.stands)
              (and_then constant_falls
              (and_then (compute_known refl refl (sum_fits (4 * place) 4 (omega (arith, e, low, few_cells)) ∙ next_offset))
              none_left)))
              (omega arith))
              (record {
                same =
                    ap (λ b. exec_step (turning setting.procedures (levels setting.procedures setting.turns_each k) t) walk_loop (walking i (Some 4) cdr (suc place)) (record y { cost = b })) (omega arith) ∙ rest.runs.same
                    ∙ ap (λ b. ends falls (walking i rest.r8_then rest.word_then i) (record y { cost = b })) (omega arith);
              });
        }
      where
        next_place : (j : ℕ) → place + suc j ≡ suc place + j
        next_place j = omega arith

        next_offset : 4 * place + 4 ≡ 4 * suc place
        next_offset = omega arith
        -- ---- so words of arguments are found

module _ (setting : Setting) (placed : IsPlaced setting) (k t : ℕ) (rs valid : List Standing) (around : DynamicContext) (w : World) (z : FlatState) (cells : List (ℕ × Value)) (r0 r1 r2 : Option ℕ)
    (few_cells : length cells < 2 ^ 26) where
  -- what is passed up to an element costs so much
  abbrev pub passes : ℕ → ℕ
  passes i = 38 * i

  pub finding :
      Finding setting placed k (suc t + 1) rs valid w around z (cars cells) r0 r1 r2 (element_into setting.at) passes (length cells) (λ y. Here setting placed k t rs valid around w z y) (λ p o. Cursor setting w z cells p o)
  finding = record {
    call = λ y h. h.call;
    site = λ y h. h.site;
    later = λ credit y y' kept back site h. here_later setting placed k t rs valid around w z kept back site h;
    spent_up = λ i j up. omega (arith, up);
    finds = λ n i from count a total r8 others y h cursor low few enough.
        let up : i < length cells = let same = many_cars cells in omega (arith, few, same) in
        let wk =
        walks setting w z cells k y h.call.things r0 r1 r2 count a total few_cells (i - from) from i n r8 cursor.from cursor.word cursor.cells_left y.cost (omega (arith, low)) cursor.path cursor.is cursor.same cursor.many up
        (omega (arith, up, enough)) in
        let at = wk.here in
        let inside = wk.low in
        let small = heap_small setting w z cells k y h.call.things r0 r1 r2 count a total few_cells in
        subst
        (λ o.
        Found setting placed k (suc t + 1) rs valid w around z (cars cells) r0 r1 r2 (element_into setting.at) passes (length cells) (λ y. Here setting placed k t rs valid around w z y)
        (λ p q. Cursor setting w z cells p q) n i from count a total r8 o y) (sym cursor.registers)
        (record {
          word = wk.car;
          of_value = wk.of_value;
          r8_then = wk.r8_then;
          others_then = None ∷ Some wk.word_then ∷ Some (4 * i) ∷ [];
          at = wk.cursor;
          cost = 38 * (i - from) + 20;
          within = omega (arith, low);
          runs =
              costing {n = y.cost + (38 * (i - from) + 20)} (and_then wk.runs (and_then (load_falls refl (address_below wk.word_then 0 wk.at at (omega (arith, at, inside, small))) wk.first) none_left))
              (omega arith);
        });
  }
