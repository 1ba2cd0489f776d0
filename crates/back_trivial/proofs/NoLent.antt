-- Code that lends no block finds its frame from the stack pointer.
use Rattle.std.proofs.Common.{◌≡◌, ℕ, ◌+◌, true, ◌&&◌, refl, arith}
use Rattle.std.specs.Prelude.{nat_lt}
use Rattle.std.proofs.lemmas.Bool.Decides.{nat_tests}
use Rattle.mid_code.specs.Arena.{header_words}
use Rattle.mid_code.specs.MidCode.{MidStep, perform, choose, switch, repeat, with_block, lend, return_word, cut_to, halt_with, end_unhandled, MidCode, no_step, step_and, MidCodes, no_code, code_and, code_of}
use Rattle.mid_lines.proofs.Conjunctions.{front_true, back_true, both_true}
use Rattle.back_places.specs.Places.{from_stack}
use Rattle.back_trivial.specs.FrameFound.{step_finds, code_finds, codes_find, step_lends_none, lends_none, codes_lend_none, LawOfNoLent}

module _ (registers frame : ℕ) (enough : nat_lt registers frame ≡ true) where
  mutual
    step_from_stack : (s : MidStep) (depth : ℕ) → step_lends_none s ≡ true → step_finds registers frame (from_stack depth) s ≡ true
    step_from_stack (perform o) depth h = refl
    step_from_stack (choose t first second) depth h =
        both_true (code_finds registers frame (from_stack depth) first) (code_finds registers frame (from_stack depth) second)
        (code_from_stack first depth (front_true (lends_none first) (lends_none second) h))
        (code_from_stack second depth (back_true (lends_none first) (lends_none second) h))
    step_from_stack (switch r codes) depth h = codes_from_stack codes depth h
    step_from_stack (repeat counted head t body) depth h =
        both_true (code_finds registers frame (from_stack depth) head) (code_finds registers frame (from_stack depth) body)
        (code_from_stack head depth (front_true (lends_none head) (lends_none body) h))
        (code_from_stack body depth (back_true (lends_none head) (lends_none body) h))
    step_from_stack (with_block block words word inside landing) depth h =
        let past = from_stack (words + header_words + depth) in
        let i = code_finds registers frame past inside in
        let l = code_finds registers frame past landing in
        both_true (nat_lt registers frame) (i && l) enough
        (both_true i l (code_from_stack inside (words + header_words + depth) (front_true (lends_none inside) (lends_none landing) h))
        (code_from_stack landing (words + header_words + depth) (back_true (lends_none inside) (lends_none landing) h)))
    step_from_stack (lend block words inside) depth h = absurd (cc h)
    step_from_stack (return_word r) depth h = refl
    step_from_stack (cut_to block word) depth h = refl
    step_from_stack (halt_with r) depth h = refl
    step_from_stack (end_unhandled class site condition) depth h = refl

    code_from_stack : (c : MidCode) (depth : ℕ) → lends_none c ≡ true → code_finds registers frame (from_stack depth) c ≡ true
    code_from_stack no_step depth h = refl
    code_from_stack (step_and s c) depth h =
        both_true (step_finds registers frame (from_stack depth) s) (code_finds registers frame (from_stack depth) c)
        (step_from_stack s depth (front_true (step_lends_none s) (lends_none c) h))
        (code_from_stack c depth (back_true (step_lends_none s) (lends_none c) h))

    codes_from_stack : (codes : MidCodes) (depth : ℕ) → codes_lend_none codes ≡ true → codes_find registers frame (from_stack depth) codes ≡ true
    codes_from_stack no_code depth h = refl
    codes_from_stack (code_and c codes) depth h =
        both_true (code_finds registers frame (from_stack depth) c) (codes_find registers frame (from_stack depth) codes)
        (code_from_stack c depth (front_true (lends_none c) (codes_lend_none codes) h))
        (codes_from_stack codes depth (back_true (lends_none c) (codes_lend_none codes) h))

pub law_of_no_lent : LawOfNoLent
law_of_no_lent p h more =
    let enough : nat_lt p.registers p.frame ≡ true = grind (arith, nat_tests, more) in
    both_true (nat_lt p.registers p.frame) (code_finds p.registers p.frame (from_stack 0) (code_of p.body)) enough
    (code_from_stack p.registers p.frame enough (code_of p.body) 0 h)
