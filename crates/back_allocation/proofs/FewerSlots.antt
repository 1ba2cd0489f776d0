-- A frame that is found with a word for each of so many registers is found with fewer.
use Rattle.std.proofs.Common.{◌≡◌, ◌≤◌, ℕ, ◌+◌, true, ◌&&◌, refl, arith}
use Rattle.std.specs.Prelude.{nat_lt}
use Rattle.std.proofs.lemmas.Bool.Decides.{nat_tests}
use Rattle.mid_code.specs.Arena.{header_words}
use Rattle.mid_code.specs.MidCode.{MidStep, perform, choose, switch, repeat, with_block, lend, return_word, cut_to, halt_with, end_unhandled, MidCode, no_step, step_and, MidCodes, no_code, code_and, code_of}
use Rattle.mid_lines.proofs.Conjunctions.{front_true, back_true, both_true}
use Rattle.back_places.specs.Places.{Way, from_stack, past_record, past_block, reachable}
use Rattle.back_trivial.specs.FrameFound.{reaches_all, step_finds, code_finds, codes_find}
use Rattle.back_allocation.specs.ProgramPlaces.{LawOfFewerSlots}

less_found : (few more n : ℕ) → few ≤ more → nat_lt more n ≡ true → nat_lt few n ≡ true
less_found few more n le h = grind (arith, nat_tests, le, h)

module _ (few more frame : ℕ) (le : few ≤ more) where
  reaches_fewer : (way : Way) → reaches_all more frame way ≡ true → reaches_all few frame way ≡ true
  reaches_fewer way h = less_found few more (reachable way frame) le h

  mutual
    step_fewer : (s : MidStep) (way : Way) → step_finds more frame way s ≡ true → step_finds few frame way s ≡ true
    step_fewer (perform o) way h = refl
    step_fewer (choose t first second) way h =
        both_true (code_finds few frame way first) (code_finds few frame way second)
        (code_fewer first way (front_true (code_finds more frame way first) (code_finds more frame way second) h))
        (code_fewer second way (back_true (code_finds more frame way first) (code_finds more frame way second) h))
    step_fewer (switch r codes) way h = codes_fewer codes way h
    step_fewer (repeat counted head t body) way h =
        both_true (code_finds few frame way head) (code_finds few frame way body)
        (code_fewer head way (front_true (code_finds more frame way head) (code_finds more frame way body) h))
        (code_fewer body way (back_true (code_finds more frame way head) (code_finds more frame way body) h))
    step_fewer (with_block block words word inside landing) way h =
        let past = past_record (words + header_words) way in
        let i = code_finds more frame past inside in
        let l = code_finds more frame past landing in
        let both = back_true (reaches_all more frame past) (i && l) h in
        both_true (reaches_all few frame past) (code_finds few frame past inside && code_finds few frame past landing)
        (reaches_fewer past (front_true (reaches_all more frame past) (i && l) h))
        (both_true (code_finds few frame past inside) (code_finds few frame past landing) (code_fewer inside past (front_true i l both))
        (code_fewer landing past (back_true i l both)))
    step_fewer (lend block words inside) way h =
        let past = past_block way in
        let i = code_finds more frame past inside in
        both_true (reaches_all few frame past) (code_finds few frame past inside) (reaches_fewer past (front_true (reaches_all more frame past) i h))
        (code_fewer inside past (back_true (reaches_all more frame past) i h))
    step_fewer (return_word r) way h = h
    step_fewer (cut_to block word) way h = refl
    step_fewer (halt_with r) way h = refl
    step_fewer (end_unhandled class site condition) way h = refl

    pub code_fewer : (c : MidCode) (way : Way) → code_finds more frame way c ≡ true → code_finds few frame way c ≡ true
    code_fewer no_step way h = refl
    code_fewer (step_and s c) way h =
        both_true (step_finds few frame way s) (code_finds few frame way c) (step_fewer s way (front_true (step_finds more frame way s) (code_finds more frame way c) h))
        (code_fewer c way (back_true (step_finds more frame way s) (code_finds more frame way c) h))

    codes_fewer : (codes : MidCodes) (way : Way) → codes_find more frame way codes ≡ true → codes_find few frame way codes ≡ true
    codes_fewer no_code way h = refl
    codes_fewer (code_and c codes) way h =
        both_true (code_finds few frame way c) (codes_find few frame way codes) (code_fewer c way (front_true (code_finds more frame way c) (codes_find more frame way codes) h))
        (codes_fewer codes way (back_true (code_finds more frame way c) (codes_find more frame way codes) h))

-- so is that of a procedure, with no more slots than it has registers
pub law_of_fewer_slots : LawOfFewerSlots
law_of_fewer_slots p a le h =
    let f = reaches_all p.registers p.frame (from_stack 0) in
    let c = code_finds p.registers p.frame (from_stack 0) (code_of p.body) in
    both_true (reaches_all a.slots p.frame (from_stack 0)) (code_finds a.slots p.frame (from_stack 0) (code_of p.body))
    (reaches_fewer a.slots p.registers p.frame le (from_stack 0) (front_true f c h)) (code_fewer a.slots p.registers p.frame le (code_of p.body) (from_stack 0) (back_true f c h))
