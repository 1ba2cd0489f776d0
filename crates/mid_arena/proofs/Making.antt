-- A new object at the end of the heap, whose words were requested and stored one after another: what the arena is then, that it represents
-- the state with the object, and how a run ends that returns it. And the store of a condition that is to be signalled.
use Rattle.std.proofs.Common.{◌≡◌, ℕ, zero, suc, ◌+◌, ◌*◌, ◌/◌, ◌%◌, ◌<◌, ◌≤◌, Bool, true, false, List, [], ◌∷◌, ◌++◌, length, Some, None, refl, sym, ap, subst, ◌∙◌, arith}
use Rattle.std.specs.Prelude.{nat_le, map, slice_get, slice_index_or}
use Rattle.std.proofs.lemmas.Bool.Decides.{nat_tests}
use Rattle.std.proofs.lemmas.List.{length-map}
use Rattle.std.proofs.Math.ListN.{length-append, length-set}
use Rattle.base.specs.Names.{slice_get-front, slice_get-behind}
use Rattle.lang_meaning.specs.declared.program.ProgramRows.{ProgramRows}
use Rattle.lang_meaning.specs.Values.{Value, nil, object}
use Rattle.lang_meaning.specs.Objects.{Object, instance}
use Rattle.lang_meaning.specs.Objects.{serious_condition_class}
use Rattle.lang_meaning.specs.State as meaning
use Rattle.lang_meaning.specs.Classes.{slots, is_below}
use Rattle.lang_meaning.specs.InitialHeap.{class_value}
use Rattle.lang_meaning.specs.Primitives.{Answer, makes, instance_words}
use Rattle.mid_code.specs.Arena.{Arena, words_of, left, is_lent, word_at, with_word, with_heap}
use Rattle.mid_code.specs.State.{Registers, MidState, MidOutcome, returns, no_room, ends}
use Rattle.mid_arena.specs.Tags.{nil_word, instance_header, object_tag, signal_word, tag_of}
use Rattle.mid_arena.specs.Places.{Spot, Places, with_object, pointer_in, word_of, WordsOf}
use Rattle.mid_arena.specs.Standing.{ArenaStands, SlotAt}
use Rattle.mid_arena.specs.FixedWords.{pending_address}
use Rattle.mid_arena.specs.Layouts.{ObjectAt, InstanceAt}
use Rattle.mid_arena.specs.Represents.{Represents}
use Rattle.mid_arena.specs.Answers.{Enlarged, Returned, Pending, Signalled, RoomWanting, done, no_words, words_asked, units_after}
use Rattle.mid_arena.proofs.Memory.{in_spot_lent, in_spot_there, word_here, word_elsewhere, stands_with_word, stands_with_heap}
use Rattle.mid_arena.proofs.Memory.{room_below, grows_with_heap, with_words, grows_with_words, stored_heap, stored_blocks}
use Rattle.mid_arena.proofs.Memory.{words_stand}
use Rattle.mid_arena.proofs.Keeping.{same_word, words_extended, words_of_condition, words_at_least, extends_one, as_many_words, tag_low}
use Rattle.mid_arena.specs.Growing.{Grows, Changes}
use Rattle.mid_arena.proofs.Growing.{grows_same, spot_below, spot_grown}
use Rattle.mid_arena.proofs.Owners.{new_spot_found}
use Rattle.mid_arena.proofs.ClassesKept.{IsNewObject}
use Rattle.mid_arena.proofs.Representing.{fixed_spot, fixed_stands, represents_same, represents_grown, represents_made, kept_both, kept_same, kept_made, kept_grown, kept_fixed}
use Rattle.mid_arena.proofs.FixedChanges.{one_word, represents_pending, word_of_fixed}
use Rattle.mid_arena.proofs.Doing.{SameObjects, Answers, paid}
use Rattle.std.proofs.lemmas.Bool.{ne_eqb}

-- ---- arenas

-- so many words are left, or they are not
pub data Room (words : ℕ) (a : Arena) : Type 0 where
  is_left : words ≤ left a → Room words a
  is_wanting : left a < words → Room words a

pub room_for : (words : ℕ) (a : Arena) → Room words a
room_for words a = by (nat_le words (left a)) refl
  where
    by : (b : Bool) → nat_le words (left a) ≡ b → Room words a
    by true e = is_left (grind (arith, nat_tests))
    by false e = is_wanting (grind (arith, nat_tests))

pub enlarged_by : {a b : Arena} (words : ℕ) → Grows a b → b.heap_to ≡ a.heap_to + 4 * words → Enlarged a b words
enlarged_by words g to = record { size = g.size; laid_from = g.laid_from; laid_to = g.laid_to; heap_from = g.heap_from; heap_to = to }

-- the arena with so many new words, of which the first ones were stored
abbrev pub begun : (words : ℕ) → List ℕ → Arena → Arena
begun words ws a = with_words a.heap_to ws (with_heap words a)

-- it has the heap and the blocks of before, but for the new words
pub begun_heap : (words : ℕ) (ws : List ℕ) (a : Arena) → (begun words ws a).heap_to ≡ a.heap_to + 4 * words
begun_heap words ws a = stored_heap a.heap_to ws (with_heap words a)

pub begun_blocks : (words : ℕ) (ws : List ℕ) (a : Arena) → (begun words ws a).blocks ≡ a.blocks
begun_blocks words ws a = stored_blocks a.heap_to ws (with_heap words a)

-- all else stays
pub begun_grows : {a : Arena} (words : ℕ) (ws : List ℕ) → ArenaStands a → words ≤ left a → length ws ≤ words → Grows a (begun words ws a)
begun_grows {a} words ws h room some =
    grows_with_words a.heap_to ws (grows_with_heap words h room) h.aligned (omega arith) (omega (arith, room_below words h room, some))

-- each word stands where it was stored
pub begun_word :
    {a : Arena} (words : ℕ) (ws : List ℕ) (x i w : ℕ) → ArenaStands a → words ≤ left a → length ws ≤ words → x ≡ a.heap_to + 4 * i → slice_get ws i ≡ Some w
    → word_at (begun words ws a) x ≡ Some w
begun_word {a} words ws x i w h room some same found =
    ap (word_at (begun words ws a)) same
    ∙ words_stand a.heap_to ws (with_heap words a) i w (stands_with_heap words h room) h.aligned (omega (arith, h.heap)) (omega arith) found

-- a word that is stored below the heap's end changes at most its spot
pub changes_stored : {a : Arena} (x w : ℕ) → ArenaStands a → x % 4 ≡ 0 → x < a.heap_to → Changes (one_word x) a (with_word x w a)
changes_stored {a} x w h aligned inside = record {
  laid_from = refl;
  laid_to = refl;
  heap_from = refl;
  heap_to = omega arith;
  stands = stands_with_word x w h;
  before = λ y low. word_elsewhere a x w y aligned (ne_eqb x y (λ same. omega arith));
  after = λ y low high. word_elsewhere a x w y aligned (ne_eqb x y (λ same. omega arith));
  stack = λ y from to. word_elsewhere a x w y aligned (ne_eqb x y (λ same. omega (arith, h.room)));
}

-- ---- slots

-- where the words of values stand, so do slots with these values
pub slot_stands :
    (places : Places) (a : Arena) (address : ℕ) (vs : List Value) (ws : List ℕ) (i : ℕ) → WordsOf places vs ws → i < length vs
    → ((w : ℕ) → slice_get ws i ≡ Some w → word_at a address ≡ Some w) → SlotAt places a address (slice_index_or (map (λ v. Some v) vs) i None)
slot_stands places a address [] ws i h low stand = absurd (omega arith)
slot_stands places a address (v ∷ vs) [] i h low stand = absurd h
slot_stands places a address (v ∷ vs) (w ∷ ws) zero h low stand = record { word = w; of_value = h.0; stands = stand w refl }
slot_stands places a address (v ∷ vs) (w ∷ ws) (suc i) h low stand = slot_stands places a address vs ws i h.1 (omega arith) stand

-- ---- a represented state

module _ (names : List (List ℕ)) (program : ProgramRows) (places : Places) (z : meaning.State) (y : MidState) (r : Represents names program places z y) where
  -- the fixed words are lent, and stand below the heap's end
  pub fixed_below : 184 ≤ y.arena.heap_to
  fixed_below = spot_below r.arena (fixed_stands names program places z y r)

  pub fixed_lent : (x : ℕ) → x % 4 ≡ 0 → x < 184 → is_lent y.arena x ≡ true
  fixed_lent x aligned high = in_spot_lent x (fixed_stands names program places z y r) aligned (omega arith) high

  -- also where the arena grew
  pub fixed_still_lent : (b : Arena) → Grows y.arena b → (x : ℕ) → x % 4 ≡ 0 → x < 184 → is_lent b x ≡ true
  fixed_still_lent b g x aligned high = in_spot_lent x (spot_grown g.heap (fixed_stands names program places z y r)) aligned (omega arith) high

  -- what is stored there stands there
  pub stored_fixed : (address word : ℕ) → address % 4 ≡ 0 → address < 184 → word_at (with_word address word y.arena) address ≡ Some word
  stored_fixed address word aligned low =
      word_here y.arena address word (fixed_lent address aligned low) (in_spot_there {s = fixed_spot} address r.arena (fixed_stands names program places z y r) (omega arith))

module _ (names : List (List ℕ)) (program : ProgramRows) (places : Places) (z : meaning.State) (y : MidState) (r : Represents names program places z y) where
  -- words that are not left were asked for, where nothing else changed
  pub room_wanting :
      (asked : ℕ) (rs : Registers) (k : ℕ) → left y.arena < asked
      → RoomWanting names program places z y 0 asked (ends (no_room asked (left y.arena)) rs (paid y k))
  room_wanting asked rs k lacking = record {
    asked_for = asked;
    left_then = left y.arena;
    end = refl;
    wanting = lacking;
    together = omega (arith, lacking);
    represents = represents_grown names program places z y r (paid y k) (grows_same y.arena r.arena).heap refl refl;
    kept = kept_grown names program places z y r y.arena (grows_same y.arena r.arena);
  }

  -- so a run that ends with it answers
  pub answers_wanting :
      {budget : ℕ} {answer : Answer} (asked : ℕ) (rs : Registers) (k : ℕ) → left y.arena < asked → asked ≡ words_asked names program answer
      → k + 250 * z.units ≤ budget + 250 * units_after names program answer
      → Answers names program places z y budget answer (ends (no_room asked (left y.arena)) rs (paid y k))
  answers_wanting asked rs k lacking same cost = record {
    comes = no_words (subst (λ n. RoomWanting names program places z y 0 n (ends (no_room asked (left y.arena)) rs (paid y k))) same (room_wanting asked rs k lacking));
    cost = cost;
  }

  -- a new object, at the end of the heap, in an arena that grew by its words
  module _
      (words tag : ℕ) (o : Object) (y' : MidState) (g : Grows y.arena y'.arena) (to : y'.arena.heap_to ≡ y.arena.heap_to + 4 * words)
      (blocks : y'.arena.blocks ≡ y.arena.blocks) (printed : y'.printed ≡ y.printed) (input : y'.input ≡ y.input) (some : 1 ≤ words) (small : tag < 4)
    where
      -- the spot of the object, and the places with it
      abbrev pub spot_made : Spot
      spot_made = record { address = y.arena.heap_to; words = words; tag = tag }

      abbrev pub places_made : Places
      places_made = with_object spot_made places

      module _ (z' : meaning.State) (alike : SameObjects z z') (made : ObjectAt names program places_made y'.arena spot_made o) (is_made : IsNewObject program o) where
        -- it is represented
        pub represents_new : Represents names program places_made (meaning.stored o z') y'
        represents_new =
            represents_made names program places z' y (represents_same names program places z z' y alike.store alike.symbols alike.printed alike.input r) y' g.heap printed input
            spot_made refl (omega (arith, to)) some small o made is_made

        -- and it is the value of its pointer
        pub pointer_made : word_of places_made (object (length z'.store)) ≡ Some (y.arena.heap_to + tag)
        pointer_made =
            let number : length z'.store ≡ length places.objects = ap (λ os. length os) alike.store ∙ sym r.count in
            ap (λ i. word_of places_made (object i)) number ∙ ap pointer_in (new_spot_found spot_made places)

        -- a run that returns its pointer comes to it
        pub returned_new : (rs : Registers) → Returned names program places z y places_made (object (length z'.store)) (meaning.stored o z') words (ends (returns (y.arena.heap_to + tag)) rs y')
        returned_new rs = record {
          word = y.arena.heap_to + tag;
          end = refl;
          of_value = pointer_made;
          represents = represents_new;
          arena = enlarged_by words g to;
          blocks = blocks;
          kept = kept_grown names program places z y r y'.arena g;
        }

  -- so such a run answers
  pub answers_made :
      {budget : ℕ} (size besides : ℕ) (o : Object) (z' : meaning.State) (y' : MidState) (rs : Registers) → SameObjects z z' → Grows y.arena y'.arena
      → y'.arena.heap_to ≡ y.arena.heap_to + 4 * size → y'.arena.blocks ≡ y.arena.blocks → y'.printed ≡ y.printed → y'.input ≡ y.input → 1 ≤ size
      → ObjectAt names program (with_object (record { address = y.arena.heap_to; words = size; tag = tag_of o }) places) y'.arena
      (record { address = y.arena.heap_to; words = size; tag = tag_of o }) o
      → IsNewObject program o → y'.cost + 250 * z.units ≤ budget + 250 * (z'.units + size + besides)
      → Answers names program places z y budget (makes size besides o z') (ends (returns (y.arena.heap_to + tag_of o)) rs y')
  answers_made size besides o z' y' rs alike g to blocks printed input some made is_made cost = record {
    comes = done (returned_new size (tag_of o) o y' g to blocks printed input some (omega (arith, tag_low o)) z' alike made is_made rs);
    cost = cost;
  }

  -- a condition, whose header, class, slots and mark were stored
  module _
      (class word : ℕ) (vs : List Value) (ws : List ℕ) (condition : is_below program class serious_condition_class ≡ true)
      (count : length vs ≡ length (slots program class)) (of_class : word_of places (class_value names program class) ≡ Some word)
      (are : WordsOf places vs ws) (room : 3 + length vs ≤ left y.arena)
    where
      -- its words, its spot, and the places with it
      abbrev pub stored_words : List ℕ
      stored_words = instance_header (length vs) ∷ word ∷ (ws ++ nil_word ∷ [])

      abbrev pub condition_spot : Spot
      condition_spot = record { address = y.arena.heap_to; words = 3 + length vs; tag = object_tag }

      abbrev pub condition_places : Places
      condition_places = with_object condition_spot places

      abbrev pub condition_arena : Arena
      condition_arena = begun (3 + length vs) stored_words y.arena

      all_words : length stored_words ≤ 3 + length vs
      all_words = omega (arith, length-append ws (nil_word ∷ []), as_many_words places vs ws are)

      moved : (x i w : ℕ) → x ≡ y.arena.heap_to + 4 * i → slice_get stored_words i ≡ Some w → word_at condition_arena x ≡ Some w
      moved x i w same found = begun_word (3 + length vs) stored_words x i w r.arena room all_words same found

      as_many : length (map (λ v. Some v) vs) ≡ length vs
      as_many = length-map vs (λ v. Some v)

      pub condition_at : InstanceAt names program condition_places condition_arena condition_spot class (map (λ v. Some v) vs) nil
      condition_at = record {
        size = record {
          words = ap (λ n. 3 + n) (sym as_many) ∙ sym (words_of_condition program class (length (map (λ v. Some v) vs)) condition);
          tag = refl;
        };
        count = as_many ∙ count;
        header = moved y.arena.heap_to 0 (instance_header (length vs)) (omega arith) refl ∙ ap (λ n. Some (instance_header n)) (sym as_many);
        class = record {
          word = word;
          of_value = same_word condition_spot places (class_value names program class) word of_class;
          stands = moved (y.arena.heap_to + 4) 1 word (omega arith) refl;
        };
        values_there = λ i h.
            slot_stands condition_places condition_arena (y.arena.heap_to + 8 + 4 * i) vs ws i
            (words_extended places condition_places (extends_one condition_spot places) vs ws are) (omega (arith, as_many))
            (λ w found. moved (y.arena.heap_to + 8 + 4 * i) (suc (suc i)) w (omega arith) (slice_get-front ws (nil_word ∷ []) i w found));
        mark = λ e. record {
          word = nil_word;
          of_value = refl;
          stands =
              moved (y.arena.heap_to + 8 + 4 * length (map (λ v. Some v) vs)) (suc (suc (length ws))) nil_word
              (omega (arith, as_many, as_many_words places vs ws are)) (slice_get-behind ws nil_word);
        };
      }

  -- where a new condition stands, and its pointer was stored at the fixed address, it is to be signalled
  pub signalled_new :
      (class : ℕ) (vs : List Value) (words : ℕ) (z' : meaning.State) (y' : MidState) (rs : Registers) (k : ℕ) → SameObjects z z'
      → words ≡ instance_words program class (length vs) → Grows y.arena y'.arena → y'.arena.heap_to ≡ y.arena.heap_to + 4 * words
      → y'.arena.blocks ≡ y.arena.blocks → y'.printed ≡ y.printed → y'.input ≡ y.input
      → InstanceAt names program (with_object (record { address = y.arena.heap_to; words = words; tag = object_tag }) places) y'.arena
      (record { address = y.arena.heap_to; words = words; tag = object_tag }) class (map (λ v. Some v) vs) nil
      → class < length program.classes → Signalled names program places z y class vs z'
      (ends (returns signal_word) rs (record y' { arena = with_word pending_address (y.arena.heap_to + object_tag) y'.arena; cost = k }))
  signalled_new class vs words z' y' rs k alike size g to blocks printed input made known =
      subst (λ n. Pending names program places z y (with_object (record { address = y.arena.heap_to; words = n; tag = object_tag }) places) class vs z' n ended) size pending
    where
      word : ℕ
      word = y.arena.heap_to + object_tag

      pending_state : MidState
      pending_state = record y' { arena = with_word pending_address word y'.arena; cost = k }

      ended : MidOutcome
      ended = ends (returns signal_word) rs pending_state

      spot : Spot
      spot = record { address = y.arena.heap_to; words = words; tag = object_tag }

      after : Places
      after = with_object spot places

      condition : Object
      condition = instance class (map (λ v. Some v) vs) nil

      some : 1 ≤ words
      some = omega (arith, size, words_at_least program class (length vs))

      there : Represents names program after (meaning.stored condition z') y'
      there = represents_new words object_tag condition y' g to blocks printed input some (omega arith) z' alike made known

      stored : Changes (one_word pending_address) y'.arena pending_state.arena
      stored = changes_stored pending_address word g.stands refl (omega (arith, fixed_below names program after (meaning.stored condition z') y' there))

      pending : Pending names program places z y after class vs z' words ended
      pending = record {
        end = refl;
        represents = represents_pending names program after (meaning.stored condition z') y' there pending_state stored refl refl;
        pending = record {
          word = word;
          of_value = pointer_made words object_tag condition y' g to blocks printed input some (omega arith) z' alike made known;
          stands = stored_fixed names program after (meaning.stored condition z') y' there pending_address word refl (omega arith);
        };
        arena = record {
          size = length-set y'.arena.memory (pending_address / 4) (Some word) ∙ g.size;
          laid_from = g.laid_from;
          laid_to = g.laid_to;
          heap_from = g.heap_from;
          heap_to = to;
        };
        blocks = blocks;
        kept =
            kept_both places z y.arena y'.arena pending_state.arena (kept_grown names program places z y r y'.arena g)
            (kept_same places z z' y'.arena pending_state.arena alike.store
            (kept_made places z' spot condition y'.arena pending_state.arena
            (kept_fixed names program after (meaning.stored condition z') y' there pending_state.arena
            (word_of_fixed names program after (meaning.stored condition z') y' there pending_address pending_state.arena (omega arith) stored))))
            (omega (arith, g.size, ap words_of blocks));
      }
