-- The code that makes an instance, and the arena where its words were stored.
use Rattle.std.proofs.Common.{◌≡◌, ℕ, ◌+◌, ◌*◌, ◌%◌, ◌^◌, ◌<◌, ◌≤◌, pos, List, [], ◌∷◌, ◌++◌, length, Option, Some, refl, ap, ◌∙◌, arith}
use Rattle.std.specs.Prelude.{slice_get}
use Rattle.lang_meaning.specs.Values.{same}
use Rattle.mid_code.specs.declared.operation.Arithmetic.TheVariants as which
use Rattle.mid_code.specs.declared.operation.Operation.TheVariants.{Move, Request}
use Rattle.base.specs.Arithmetic.{sum32}
use Rattle.mid_code.specs.Arena.{Arena, stack_from, left, word_at, with_word, with_heap}
use Rattle.mid_code.specs.MidCode.{MidStep, perform, code_of}
use Rattle.mid_code.specs.State.{MidState, falls, ends}
use Rattle.mid_code.specs.Meaning.{Context}
use Rattle.mid_arena.specs.Tags.{nil_word, unbound_word, instance_header}
use Rattle.mid_arena.specs.Standing.{ArenaStands}
use Rattle.mid_arena.specs.Steps as steps
use Rattle.mid_arena.proofs.WordFacts.{instance_header_made, four_times_count, sum_fits}
use Rattle.mid_arena.proofs.Memory.{room_below, heap_below, stands_with_word, stands_with_heap, grows_with_heap, grows_stored, grows_with_words}
use Rattle.mid_arena.proofs.Memory.{with_words, words_stand, words_behind, stored_in_heap, stored_heap, stored_blocks}
use Rattle.mid_arena.proofs.Running.{RunsTo, none_left, and_then, costing, constant_falls}
use Rattle.mid_arena.proofs.Running.{compute_known, move_falls, store_in_heap, request_falls, address_here, address_above}
use Rattle.mid_arena.proofs.Doing.{paid}
use Rattle.mid_arena.specs.Growing.{Grows}
use Rattle.mid_arena.proofs.Filling.{filling_code}

-- ---- the arena

-- so many words more, of which nil was stored at an address, and then these words from the first one on
abbrev pub allotted : (words mark : ℕ) → List ℕ → Arena → Arena
allotted words mark ws a = with_words a.heap_to ws (with_word mark nil_word (with_heap words a))

module _ (a : Arena) (words mark : ℕ) (ws : List ℕ) (stands : ArenaStands a) (room : words ≤ left a) (few : length ws ≤ words) (aligned : mark % 4 ≡ 0) (behind : a.heap_to ≤ mark) where
  pub allotted_grows : mark < a.heap_to + 4 * words → Grows a (allotted words mark ws a)
  allotted_grows inside =
      let below : a.heap_to + 4 * words ≤ stack_from a = room_below words stands room in
      grows_with_words a.heap_to ws (grows_stored mark nil_word (grows_with_heap words stands room) aligned behind (omega (arith, below, inside))) stands.aligned
      (omega arith) (omega (arith, below, few))

  pub allotted_heap : (allotted words mark ws a).heap_to ≡ a.heap_to + 4 * words
  allotted_heap = stored_heap a.heap_to ws (with_word mark nil_word (with_heap words a))

  pub allotted_blocks : (allotted words mark ws a).blocks ≡ a.blocks
  allotted_blocks = stored_blocks a.heap_to ws (with_word mark nil_word (with_heap words a))

  pub allotted_word : (x i w : ℕ) → x ≡ a.heap_to + 4 * i → slice_get ws i ≡ Some w → word_at (allotted words mark ws a) x ≡ Some w
  allotted_word x i w same found =
      ap (word_at (allotted words mark ws a)) same
      ∙ words_stand a.heap_to ws (with_word mark nil_word (with_heap words a)) i w (stands_with_word mark nil_word (stands_with_heap words stands room)) stands.aligned
      (omega (arith, stands.heap)) (omega arith) found

  -- nil is there where the words end in front of it
  pub allotted_mark : a.heap_to + 4 * length ws ≤ mark → mark < a.heap_to + 4 * words → word_at (allotted words mark ws a) mark ≡ Some nil_word
  allotted_mark low high =
      words_behind a.heap_to ws (with_word mark nil_word (with_heap words a)) mark stands.aligned low
      ∙ stored_in_heap {a = with_heap words a} mark nil_word (stands_with_heap words stands room) aligned (omega (arith, stands.heap, low)) high

-- ---- the code

-- behind the tests: whether it is a condition, how many slots it has, and how many words are wanted
abbrev pub asking_code : List MidStep
asking_code =
    steps.load 4 0 (pos 14) ∷ steps.compute_by 4 which.Subtract 4 nil_word ++ steps.constant 6 0 ∷ steps.compute 4 which.LessUnsigned 6 4 ∷ steps.load 5 0 (pos 22)
    ∷ steps.compute_by 3 which.ShiftRight 5 2 ++ steps.compute 3 which.Add 3 4 ∷ steps.compute_by 3 which.Add 3 2

-- they are requested, nil, the header and the class are stored, and the loop is made ready
abbrev pub beginning_code : List MidStep
beginning_code =
    perform (Request 3 3) ∷ steps.compute_by 4 which.ShiftLeft 4 2 ++ steps.compute 4 which.Add 4 5 ∷ steps.compute 4 which.Add 4 3 ∷ steps.constant 6 nil_word
    ∷ steps.store 6 4 (pos 4) ∷ steps.compute_by 7 which.ShiftLeft 5 2 ++ steps.compute_by 7 which.Add 7 3 ++ steps.store 7 3 (pos 0) ∷ steps.store 0 3 (pos 4)
    ∷ steps.compute 5 which.Add 5 3 ∷ perform (Move 7 3) ∷ steps.constant 4 unbound_word ∷ []

-- then the slots are filled, and the pointer is returned
abbrev pub allocating_code : List MidStep
allocating_code = asking_code ++ (beginning_code ++ filling_code)

-- where the mark of a condition would be, and else one word in front of it
abbrev pub mark_address : (heap count bit : ℕ) → ℕ
mark_address heap count bit = heap + 4 * (1 + count + bit)

pub beginning_falls :
    {c : Context} {r1 r2 r6 r7 : Option ℕ} (y : MidState) (k w count bit : ℕ) → ArenaStands y.arena → bit < 2 → 2 + count + bit ≤ left y.arena
    → RunsTo c (code_of beginning_code) (Some w ∷ r1 ∷ r2 ∷ Some (2 + count + bit) ∷ Some bit ∷ Some (4 * count) ∷ r6 ∷ r7 ∷ []) (paid y k)
    (ends falls (Some w ∷ r1 ∷ r2 ∷ Some y.arena.heap_to ∷ Some unbound_word ∷ Some (y.arena.heap_to + 4 * count) ∷ Some 3 ∷ Some y.arena.heap_to ∷ [])
    (record y { arena = allotted (2 + count + bit) (mark_address y.arena.heap_to count bit) (instance_header count ∷ w ∷ []) y.arena; cost = k + 140 }))
beginning_falls y k w count bit stands small room =
    let heap : ℕ = y.arena.heap_to in
    let high : heap + 4 * (2 + count + bit) ≤ 2 ^ 26 = heap_below (stands_with_heap (2 + count + bit) stands room) in
    let behind_heap : sum32 (4 * bit + 4 * count) heap ≡ heap + 4 * (count + bit) = omega arith in
    let end_is : sum32 (4 * count) heap ≡ heap + 4 * count = omega arith in
    costing
    (and_then (request_falls refl room)
    (and_then constant_falls
    (and_then (compute_known refl refl (four_times_count bit (omega arith)))
    (and_then (compute_known refl refl (sum_fits (4 * bit) (4 * count) (omega arith)))
    (and_then (compute_known refl refl behind_heap)
    (and_then constant_falls
    (and_then
    (store_in_heap refl refl (address_above (heap + 4 * (count + bit)) 4 (mark_address heap count bit) (omega arith) (omega arith))
    (omega (arith, stands.aligned)) (omega (arith, stands.heap)) (omega arith))
    (and_then constant_falls
    (and_then (compute_known refl refl refl)
    (and_then constant_falls
    (and_then (compute_known refl refl (instance_header_made count (omega arith)))
    (and_then (store_in_heap refl refl (address_here heap (omega arith)) stands.aligned (omega (arith, stands.heap)) (omega arith))
    (and_then (store_in_heap refl refl (address_above heap 4 (heap + 4) refl (omega arith)) (omega (arith, stands.aligned)) (omega (arith, stands.heap)) (omega arith))
    (and_then (compute_known refl refl end_is)
    (and_then (move_falls refl)
    (and_then constant_falls none_left)))))))))))))))) (omega arith)
