-- A slot of an instance that is set: the code does what the meaning says of it.
use Rattle.std.proofs.Common.{◌≡◌, ℕ, ◌+◌, ◌*◌, ◌<◌, ◌≤◌, pos, List, [], ◌∷◌, length, Option, Some, None, ⊎_elim, refl, sym, ap, ◌∙◌, arith}
use Rattle.std.specs.Prelude.{slice_set, slice_index_or, ◌≢◌}
use Rattle.std.proofs.lemmas.Bool.{cases_eq}
use Rattle.std.proofs.lemmas.List.{get_or-set_same, get_or-set_other}
use Rattle.std.proofs.Math.ListN.{length-set}
use Rattle.lang_meaning.specs.declared.program.ProgramRows.{ProgramRows}
use Rattle.lang_meaning.specs.declared.primitive.Primitive.TheVariants.{SlotSet}
use Rattle.lang_meaning.specs.Values.{Value}
use Rattle.lang_meaning.specs.Objects.{Object, instance}
use Rattle.lang_meaning.specs.State as meaning
use Rattle.lang_meaning.specs.Primitives.{result, change, instance_words}
use Rattle.mid_code.specs.declared.program.MidProcedure.{MidProcedure}
use Rattle.mid_code.specs.declared.operation.Arithmetic.TheVariants as which
use Rattle.mid_code.specs.Arena.{Arena, word_at, with_word}
use Rattle.mid_code.specs.MidCode.{MidStep, return_word, code_of}
use Rattle.mid_code.specs.State.{Registers, MidState, MidOutcome, first_registers}
use Rattle.mid_code.specs.Meaning.{Task}
use Rattle.mid_arena.specs.Tags.{instance_header}
use Rattle.mid_arena.specs.Places.{Spot, end_of, Places, word_of}
use Rattle.mid_arena.specs.Standing.{ArenaStands, SpotStands, ValueAt, SlotAt}
use Rattle.mid_arena.specs.Layouts.{InstanceAt}
use Rattle.mid_arena.specs.Represents.{Represents}
use Rattle.mid_arena.specs.Steps as steps
use Rattle.mid_arena.specs.Steps.{steps_of}
use Rattle.mid_arena.proofs.Running.{compute_known, address_above}
use Rattle.mid_arena.proofs.Memory.{stored_in_spot, others_in_spot}
use Rattle.mid_arena.proofs.Keeping.{words_at_least}
use Rattle.mid_arena.proofs.Arguments.{ObjectFound}
use Rattle.mid_arena.proofs.Doing.{Run, goes_on}
use Rattle.mid_arena.proofs.Slots.{slot_registers, instance_low, slot_needed, slot_sum}
use Rattle.mid_arena.proofs.Taking.{does_three}
use Rattle.mid_arena.proofs.Arrays.{stores_changed}
use Rattle.mid_arena.proofs.Entering.{InEveryFrame}

-- an instance in whose spot one slot was set
pub instance_set :
    (names : List (List ℕ)) (program : ProgramRows) (places : Places) (a : Arena) (s : Spot) (c : ℕ) (values : List (Option Value)) (mark : Value) (i w : ℕ) (v : Value)
    → ArenaStands a → SpotStands a s → i < length values → word_of places v ≡ Some w → InstanceAt names program places a s c values mark
    → InstanceAt names program places (with_word (s.address + 4 * (2 + i)) w a) s c (slice_set values i (Some v)) mark
instance_set names program places a s c values mark i w v arena stands low word t =
    record {
      size = record { words = t.size.words ∙ ap (instance_words program c) (sym same); tag = t.size.tag };
      count = same ∙ t.count;
      header = elsewhere s.address (λ e. omega arith) ∙ t.header ∙ ap (λ n. Some (instance_header n)) (sym same);
      class = record { word = t.class.word; of_value = t.class.of_value; stands = elsewhere (s.address + 4) (λ e. omega arith) ∙ t.class.stands };
      values_there = λ j h. ⊎_elim (here j) (beside j (omega (arith, same))) (cases_eq j i);
      mark = λ e. mark_there (t.mark e);
    }
  where
    same : length (slice_set values i (Some v)) ≡ length values
    same = length-set values i (Some v)

    elsewhere : (x : ℕ) → s.address + 4 * (2 + i) ≢ x → word_at (with_word (s.address + 4 * (2 + i)) w a) x ≡ word_at a x
    elsewhere x other = others_in_spot (2 + i) w x stands other

    mark_there : ValueAt places a (s.address + 8 + 4 * length values) mark
        → ValueAt places (with_word (s.address + 4 * (2 + i)) w a) (s.address + 8 + 4 * length (slice_set values i (Some v))) mark
    mark_there at = record {
      word = at.word;
      of_value = at.of_value;
      stands = elsewhere (s.address + 8 + 4 * length (slice_set values i (Some v))) (λ e. omega (arith, same)) ∙ ap (λ n. word_at a (s.address + 8 + 4 * n)) same ∙ at.stands;
    }

    here : (j : ℕ) → j ≡ i → SlotAt places (with_word (s.address + 4 * (2 + i)) w a) (s.address + 8 + 4 * j) (slice_index_or (slice_set values i (Some v)) j None)
    here j e =
        let is : slice_index_or (slice_set values i (Some v)) j None ≡ Some v =
        ap (λ k. slice_index_or (slice_set values i (Some v)) k None) e ∙ get_or-set_same values i (Some v) None low
        in
        rw is (record {
          word = w;
          of_value = word;
          stands = stored_in_spot (2 + i) w (s.address + 8 + 4 * j) arena stands (omega (arith, t.size.words, words_at_least program c (length values))) (omega arith);
        })

    beside :
        (j : ℕ) → j < length values → j ≢ i
        → SlotAt places (with_word (s.address + 4 * (2 + i)) w a) (s.address + 8 + 4 * j) (slice_index_or (slice_set values i (Some v)) j None)
    beside j h other =
        rw (get_or-set_other values i j (Some v) None other) (moved (slice_index_or values j None) (t.values_there j h))
      where
        moved : (o : Option Value) → SlotAt places a (s.address + 8 + 4 * j) o → SlotAt places (with_word (s.address + 4 * (2 + i)) w a) (s.address + 8 + 4 * j) o
        moved None at = elsewhere (s.address + 8 + 4 * j) (λ e. other (omega arith)) ∙ at
        moved (Some u) at = record {
          word = at.word;
          of_value = at.of_value;
          stands = elsewhere (s.address + 8 + 4 * j) (λ e. other (omega arith)) ∙ at.stands;
        }

-- the lines behind the test of a place
abbrev setting : List MidStep
setting = steps.compute 5 which.Add 1 2 ∷ steps.store 0 5 (pos 6) ∷ return_word 0 ∷ []

module _
    (names : List (List ℕ)) (program : ProgramRows) (places : Places) (z : meaning.State) (y : MidState) (r : Represents names program places z y)
    (w x c : ℕ) (v : Value) (values : List (Option Value)) (mark : Value) (j : ℕ)
    (it : ObjectFound names program places z y r v w (instance c values mark)) (inside : j < length values) (place : x ≡ 4 * j)
    (u : Value) (word : ℕ) (of_value : word_of places u ≡ Some word)
  where
    -- the object where the slot was set
    abbrev now : Object
    now = instance c (slice_set values j (Some u)) mark

    slot_within : it.spot.address + 4 * (2 + j) + 4 ≤ end_of it.spot
    slot_within = omega (arith, it.stands.size.words, words_at_least program c (length values))

    set_run :
        (procedures : List MidProcedure) (below : Task → MidState → MidOutcome) (n budget k : ℕ) → k + 32 ≤ budget
        → Run names program places z y procedures below n budget (result u (change v now z)) (code_of setting)
        (slot_registers w x (length values) (first_registers 8 (word ∷ w ∷ x ∷ []))) k
    set_run procedures below n budget k cost =
        let low = instance_low names program places z y r v w c values mark it in
        let known : c < length program.classes = r.classes.instances it.number c values mark it.stored in
        let registers : Registers = slice_set (slot_registers w x (length values) (first_registers 8 (word ∷ w ∷ x ∷ []))) 5 (Some (w + x)) in
        goes_on names program places z y procedures below (compute_known refl refl (slot_sum names program places z y r w x c v values mark j it inside place))
        (stores_changed names program places z y r procedures below n budget (k + 10) it.number 0 5 0 (w + x) (it.spot.address + 4 * (2 + j)) word word (pos 6) it.spot
        (instance c values mark) now u v registers refl refl
        (address_above (w + x) 6 (it.spot.address + 4 * (2 + j)) (omega (arith, it.word)) (omega (arith, it.word, low))) refl of_value
        (omega (arith, it.spot_stands.aligned)) (omega arith) (omega (arith, slot_within)) it.stored known known (λ p e. absurd (cc e)) it.found it.value
        (instance_set names program places y.arena it.spot c values mark j word u r.arena it.spot_stands inside of_value it.stands) (omega (arith, cost)))

pub slot_set_does : InEveryFrame SlotSet
slot_set_does = does_three SlotSet refl (λ u v p word w x names program places z y procedures below n r are units.
    slot_needed names program places z y r procedures below n (y.cost + 130 + 244 * 3) y.cost 1 2 w x v p
    (λ i at. result u (change v (instance i.0 (slice_set i.1 at (Some u)) i.2) z))
    setting (first_registers 8 (word ∷ w ∷ x ∷ [])) (omega arith) (omega arith) refl refl refl are.1.0 are.1.1.0 (omega arith)
    (λ c values mark j it inside place.
    set_run names program places z y r w x c v values mark j it inside place u word are.0 procedures below n _ _ (omega arith)))
