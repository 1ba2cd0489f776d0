-- A cons that is made, its two parts, and a part that is set do what the meaning says of them.
use Rattle.std.proofs.Common.{◌≡◌, ℕ, ◌+◌, ◌*◌, ◌^◌, ◌<◌, ◌≤◌, ℤ, pos, List, [], ◌∷◌, ◌++◌, Some, refl, ap, ◌∙◌, arith}
use Rattle.std.specs.Prelude.{negsuc, slice_set}
use Rattle.lang_meaning.specs.declared.program.ProgramRows.{ProgramRows}
use Rattle.lang_meaning.specs.declared.primitive.Primitive.TheVariants.{Cons, Car, Cdr, SetCar, SetCdr}
use Rattle.lang_meaning.specs.Values.{Value}
use Rattle.lang_meaning.specs.Objects.{Object, cons, cons_class}
use Rattle.lang_meaning.specs.State as meaning
use Rattle.lang_meaning.specs.Classes.{fetch}
use Rattle.lang_meaning.specs.Primitives.{result, makes, a_cons, change}
use Rattle.mid_code.specs.declared.program.MidProcedure.{MidProcedure}
use Rattle.mid_code.specs.declared.operation.Arithmetic.TheVariants as which
use Rattle.mid_code.specs.declared.operation.Operation.TheVariants as operation
use Rattle.mid_code.specs.Words.{address}
use Rattle.mid_code.specs.Arena.{Arena, left, word_at, with_word}
use Rattle.mid_code.specs.MidCode.{MidStep, perform, return_word, code_of}
use Rattle.mid_code.specs.State.{Registers, MidState, MidOutcome, returns, no_room, ends, register, first_registers}
use Rattle.mid_code.specs.Meaning.{Task}
use Rattle.mid_arena.specs.Tags.{cons_tag}
use Rattle.mid_arena.specs.Places.{Spot, Places, with_object, word_of}
use Rattle.mid_arena.specs.Standing.{ArenaStands, SpotStands, ValueAt}
use Rattle.mid_arena.specs.FixedWords.{class_address}
use Rattle.mid_arena.specs.Layouts.{ConsAt, ObjectAt}
use Rattle.mid_arena.specs.Represents.{Represents}
use Rattle.mid_arena.specs.Steps as steps
use Rattle.mid_arena.proofs.Running.{constant_falls, compute_known, load_falls, store_in_heap, request_falls, request_wanting}
use Rattle.mid_arena.proofs.Running.{and_then, and_ends, return_ends, address_here, address_up, address_above, address_below}
use Rattle.mid_arena.proofs.Memory.{heap_below, stored_in_spot, others_in_spot, spot_low}
use Rattle.mid_arena.proofs.Keeping.{same_word}
use Rattle.mid_arena.proofs.Making.{Room, is_left, is_wanting, room_for, begun, begun_grows, begun_word, answers_wanting, answers_made}
use Rattle.mid_arena.proofs.Arguments.{ObjectFound, object_found}
use Rattle.mid_arena.proofs.ClassesKept.{IsNewObject}
use Rattle.mid_arena.proofs.Doing.{alike_self, paid, Run, goes_on, returns_value}
use Rattle.mid_arena.proofs.Checking.{tag_registers, cons_needed}
use Rattle.mid_arena.proofs.Arrays.{stores_changed}
use Rattle.mid_arena.proofs.Taking.{does_one, does_two}
use Rattle.mid_arena.proofs.WordFacts.{sum_fits}
use Rattle.mid_arena.proofs.Entering.{InEveryFrame}

-- ---- the parts of a cons

-- the two parts, where they are from the word of a cons on, and which value each is
data ConsPart : Type 0 where
  first_part : ConsPart
  second_part : ConsPart

abbrev offset_of : ConsPart → ℤ
offset_of first_part = negsuc 0
offset_of second_part = pos 3

abbrev words_to : ConsPart → ℕ
words_to first_part = 0
words_to second_part = 1

abbrev part_of : ConsPart → Value × Value → Value
part_of first_part c = c.0
part_of second_part c = c.1

-- the cons with another value for a part
abbrev with_part : ConsPart → Value → Value × Value → Object
with_part first_part v c = cons v c.1
with_part second_part v c = cons c.0 v

part_made : (program : ProgramRows) (part : ConsPart) (v : Value) (c : Value × Value) → IsNewObject program (with_part part v c)
part_made program first_part v c = tt
part_made program second_part v c = tt

-- the line that the argument has to be a cons
abbrev need_cons : (of : ℕ) → List MidStep → List MidStep
need_cons of rest = steps.need_tag of (2 ^ 30) (pos (class_address cons_class)) ++ rest

module _
    (names : List (List ℕ)) (program : ProgramRows) (places : Places) (z : meaning.State) (y : MidState) (r : Represents names program places z y)
    (procedures : List MidProcedure) (below : Task → MidState → MidOutcome)
  where
    -- a part stands at its offset
    part_address :
        (part : ConsPart) (v : Value) (w : ℕ) (car cdr : Value) (it : ObjectFound names program places z y r v w (cons car cdr))
        → address w (offset_of part) ≡ it.spot.address + 4 * words_to part
    part_address first_part v w car cdr it =
        let high = spot_low r.arena it.spot_stands in
        address_below w 0 (it.spot.address + 4 * 0) (omega (arith, it.word)) (omega (arith, it.word, it.stands.size.words, high))
    part_address second_part v w car cdr it =
        let high = spot_low r.arena it.spot_stands in
        address_above w 3 (it.spot.address + 4 * 1) (omega (arith, it.word)) (omega (arith, it.stands.size.words, high))

    part_stands : (part : ConsPart) (s : Spot) (car cdr : Value) → ConsAt places y.arena s car cdr → ValueAt places y.arena (s.address + 4 * words_to part) (part_of part (car, cdr))
    part_stands first_part s car cdr t = record { word = t.car.word; of_value = t.car.of_value; stands = ap (word_at y.arena) (omega arith) ∙ t.car.stands }
    part_stands second_part s car cdr t = t.cdr

    -- the argument is a cons, and its part is returned
    takes_part :
        (n w : ℕ) (v : Value) (part : ConsPart) → word_of places v ≡ Some w
        → Run names program places z y procedures below n (y.cost + 130 + 244) (a_cons v z (λ c. result (part_of part c) z))
        (code_of (need_cons 0 (steps.load 7 0 (offset_of part) ∷ return_word 7 ∷ []))) (first_registers 8 (w ∷ [])) y.cost
    takes_part n w v part word =
        cons_needed names program places z y r procedures below n (y.cost + 130 + 244) y.cost 0 w v (λ c. result (part_of part c) z)
        (steps.load 7 0 (offset_of part) ∷ return_word 7 ∷ []) (first_registers 8 (w ∷ [])) (omega arith) refl refl word (omega arith)
        (λ car cdr found.
        let it = object_found names program places z y r v w (cons car cdr) word found in
        let at = part_stands part it.spot car cdr it.stands in
        goes_on names program places z y procedures below (load_falls refl (part_address part v w car cdr it) at.stands)
        (returns_value names program places z y procedures below r refl at.of_value (alike_self z) (omega arith)))

pub car_does : InEveryFrame Car
car_does = does_one Car refl (λ v w names program places z y procedures below n r are units.
    takes_part names program places z y r procedures below n w v first_part are.0)

pub cdr_does : InEveryFrame Cdr
cdr_does = does_one Cdr refl (λ v w names program places z y procedures below n r are units.
    takes_part names program places z y r procedures below n w v second_part are.0)

-- ---- a part is set

-- a cons in whose spot the word of a part was stored
cons_set :
    (places : Places) (a : Arena) (s : Spot) (car cdr v : Value) (w : ℕ) (part : ConsPart) → ArenaStands a → SpotStands a s → word_of places v ≡ Some w
    → ConsAt places a s car cdr → (names : List (List ℕ)) (program : ProgramRows)
    → ObjectAt names program places (with_word (s.address + 4 * words_to part) w a) s (with_part part v (car, cdr))
cons_set places a s car cdr v w first_part arena stands word t names program = record {
  size = t.size;
  car = record {
    word = w;
    of_value = word;
    stands = stored_in_spot 0 w s.address arena stands (omega (arith, t.size.words)) (omega arith);
  };
  cdr = record { word = t.cdr.word; of_value = t.cdr.of_value; stands = others_in_spot 0 w (s.address + 4) stands (λ e. omega arith) ∙ t.cdr.stands };
}
cons_set places a s car cdr v w second_part arena stands word t names program = record {
  size = t.size;
  car = record {
    word = t.car.word;
    of_value = t.car.of_value;
    stands = others_in_spot 1 w s.address stands (λ e. omega arith) ∙ t.car.stands;
  };
  cdr = record { word = w; of_value = word; stands = stored_in_spot 1 w (s.address + 4) arena stands (omega (arith, t.size.words)) (omega arith) };
}

part_below : (part : ConsPart) → words_to part < 2
part_below first_part = omega arith
part_below second_part = omega arith

module _
    (names : List (List ℕ)) (program : ProgramRows) (places : Places) (z : meaning.State) (y : MidState) (r : Represents names program places z y)
    (procedures : List MidProcedure) (below : Task → MidState → MidOutcome)
  where
    -- the argument was found to be a cons, the first word is stored in its part, and returned
    stores_part :
        (n budget k a w : ℕ) (v u car cdr : Value) (part : ConsPart) (rs : Registers) → word_of places v ≡ Some a → word_of places u ≡ Some w
        → fetch z u ≡ Some (cons car cdr) → register 0 rs ≡ Some a → register 1 rs ≡ Some w → k + 22 ≤ budget
        → Run names program places z y procedures below n budget (result v (change u (with_part part v (car, cdr)) z))
        (code_of (steps.store 0 1 (offset_of part) ∷ return_word 0 ∷ [])) rs k
    stores_part n budget k a w v u car cdr part rs first second found held held_cons cost =
        let it = object_found names program places z y r u w (cons car cdr) second found in
        let low : words_to part < 2 = part_below part in
        stores_changed names program places z y r procedures below n budget k it.number 0 1 0 w (it.spot.address + 4 * words_to part) a a (offset_of part) it.spot
        (cons car cdr) (with_part part v (car, cdr)) v u rs held held_cons (part_address names program places z y r procedures below part u w car cdr it) held first
        (omega (arith, it.spot_stands.aligned)) (omega arith) (omega (arith, low, it.stands.size.words)) it.stored tt (part_made program part v (car, cdr))
        (λ p e. absurd (cc e)) it.found it.value (cons_set places y.arena it.spot car cdr v a part r.arena it.spot_stands first it.stands names program) cost

    sets_part :
        (n a w : ℕ) (v u : Value) (part : ConsPart) → word_of places v ≡ Some a → word_of places u ≡ Some w
        → Run names program places z y procedures below n (y.cost + 130 + 244 * 2) (a_cons u z (λ c. result v (change u (with_part part v c) z)))
        (code_of (need_cons 1 (steps.store 0 1 (offset_of part) ∷ return_word 0 ∷ []))) (first_registers 8 (a ∷ w ∷ [])) y.cost
    sets_part n a w v u part first second =
        cons_needed names program places z y r procedures below n (y.cost + 130 + 244 * 2) y.cost 1 w u (λ c. result v (change u (with_part part v c) z))
        (steps.store 0 1 (offset_of part) ∷ return_word 0 ∷ []) (first_registers 8 (a ∷ w ∷ [])) (omega arith) refl refl second (omega arith)
        (λ car cdr found.
        stores_part n (y.cost + 130 + 244 * 2) (y.cost + 6 + 10 + 6 + 12 + 2) a w v u car cdr part (tag_registers w (2 ^ 30) (first_registers 8 (a ∷ w ∷ [])))
        first second found refl refl (omega arith))

pub set_car_does : InEveryFrame SetCar
set_car_does = does_two SetCar refl (λ v u a w names program places z y procedures below n r are units.
    sets_part names program places z y r procedures below n a w v u first_part are.0 are.1.0)

pub set_cdr_does : InEveryFrame SetCdr
set_cdr_does = does_two SetCdr refl (λ v u a w names program places z y procedures below n r are units.
    sets_part names program places z y r procedures below n a w v u second_part are.0 are.1.0)

-- ---- a cons is made

abbrev making : List MidStep
making =
    steps.constant 3 2 ∷ perform (operation.Request 3 3) ∷ steps.store 0 3 (pos 0) ∷ steps.store 1 3 (pos 4)
    ∷ steps.compute_by 3 which.Add 3 cons_tag ++ return_word 3 ∷ []

module _
    (names : List (List ℕ)) (program : ProgramRows) (places : Places) (z : meaning.State) (y : MidState) (r : Represents names program places z y)
    (procedures : List MidProcedure) (below : Task → MidState → MidOutcome)
  where
    module _ (n a b : ℕ) (v u : Value) (first : word_of places v ≡ Some a) (second : word_of places u ≡ Some b) where
      -- the registers, with that word in the fourth one
      abbrev fourth : ℕ → Registers
      fourth w = slice_set (first_registers 8 (a ∷ b ∷ [])) 3 (Some w)

      abbrev spot_of_cons : Spot
      spot_of_cons = record { address = y.arena.heap_to; words = 2; tag = cons_tag }

      -- both words were stored behind the end of the heap
      abbrev arena_with_cons : Arena
      arena_with_cons = begun 2 (a ∷ b ∷ []) y.arena

      cons_stands : 2 ≤ left y.arena → ConsAt (with_object spot_of_cons places) arena_with_cons spot_of_cons v u
      cons_stands room = record {
        size = record { words = refl; tag = refl };
        car = record {
          word = a;
          of_value = same_word spot_of_cons places v a first;
          stands = begun_word 2 (a ∷ b ∷ []) y.arena.heap_to 0 a r.arena room (omega arith) (omega arith) refl;
        };
        cdr = record {
          word = b;
          of_value = same_word spot_of_cons places u b second;
          stands = begun_word 2 (a ∷ b ∷ []) (y.arena.heap_to + 4) 1 b r.arena room (omega arith) (omega arith) refl;
        };
      }

      makes_cons :
          Room 2 y.arena → Run names program places z y procedures below n (y.cost + 130 + 244 * 2) (makes 2 0 (cons v u) z) (code_of making) (first_registers 8 (a ∷ b ∷ [])) y.cost
      makes_cons (is_wanting lacking) = record {
        outcome = ends (no_room 2 (left y.arena)) (fourth 2) (paid y (y.cost + 6 + 20));
        runs = and_then constant_falls (and_ends tt (request_wanting refl lacking));
        answers = answers_wanting names program places z y r 2 (fourth 2) (y.cost + 6 + 20) lacking refl (omega arith);
      }
      makes_cons (is_left room) =
          let low = heap_below r.arena in
          record {
            outcome = ends (returns (y.arena.heap_to + 1)) _ (record y { arena = arena_with_cons; cost = y.cost + 6 + 20 + 8 + 8 + 6 + 10 + 14 });
            runs =
                and_then constant_falls
                (and_then (request_falls refl room)
                (and_then (store_in_heap refl refl (address_here y.arena.heap_to (omega (arith, low))) r.arena.aligned r.arena.heap (omega arith))
                (and_then (store_in_heap refl refl (address_up y.arena.heap_to 4 (omega (arith, low))) (omega (arith, r.arena.aligned)) (omega (arith, r.arena.heap)) (omega arith))
                (and_then constant_falls
                (and_then (compute_known refl refl (sum_fits y.arena.heap_to 1 (omega (arith, low))))
                (and_ends tt (return_ends refl)))))));
            answers =
                answers_made names program places z y r 2 0 (cons v u) z (record y { arena = arena_with_cons; cost = y.cost + 6 + 20 + 8 + 8 + 6 + 10 + 14 }) _
                (alike_self z) (begun_grows 2 (a ∷ b ∷ []) r.arena room (omega arith)) refl refl refl refl (omega arith) (cons_stands room) tt (omega arith);
          }

pub cons_does : InEveryFrame Cons
cons_does = does_two Cons refl (λ v u a b names program places z y procedures below n r are units.
    makes_cons names program places z y r procedures below n a b v u are.0 are.1.0 (room_for 2 y.arena))
