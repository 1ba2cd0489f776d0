-- The code of control records, of handlers and of dynamic bindings: they are lent words of blocks of the stack, laid where a form begins
-- and left where it ends.
use Rattle.std.specs.Prelude.{ℕ, ◌+◌, pos, List, [], ◌∷◌, ◌++◌}
use Rattle.mid_code.specs.declared.operation.Arithmetic.TheVariants as which
use Rattle.mid_code.specs.declared.operation.Comparison.TheVariants.{Different}
use Rattle.mid_code.specs.declared.operation.Counted.TheVariants.{Level, Turn}
use Rattle.mid_code.specs.declared.operation.Operation.TheVariants.{Draw}
use Rattle.mid_code.specs.MidCode.{MidStep, MidCodes, perform, repeat, with_block, cut_to, switch, code_of}
use Rattle.back_lowering.specs.ControlWords.{current_address, link_address, serials_address, target_address, landing_address, handlers_address, bindings_address, record_serial, record_kind, record_outer, record_link, record_tag, record_words, exit_kind, catch_kind, cleanup_kind}
use Rattle.back_lowering.specs.declared.scope.SitePlace.{SitePlace}
use Rattle.back_lowering.specs.declared.scope.Reach.{Reach}
use Rattle.back_lowering.specs.declared.scope.Reach.TheVariants.{AtOnce, ByTransfer, BySearch}
use Rattle.back_lowering.specs.declared.scope.OwnExit.{OwnExit}
use Rattle.back_lowering.specs.declared.placement.Placement.{Placement}
use Rattle.back_lowering.specs.Routines.{transfer_routine, leave_routine}
use Rattle.mid_arena.specs.Tags.{nil_word}
use Rattle.back_lowering.specs.Steps.{Steps, move, constant, compute, load, store, call, test_of, if_equal, if_different}
use Rattle.back_lowering.specs.Leaves.{site_stored}

-- A record of a kind, in register b, is the current one: the record and the link outside, handlers and bindings are kept in the four
-- registers behind b. t and the next one are used; t is 0 behind it.
abbrev pub record_laid : (b t kind : ℕ) → Steps
record_laid b t kind =
    constant t 0
    ∷ constant (t + 1) kind ∷ store (t + 1) b record_kind
    ∷ load (b + 1) t current_address ∷ store (b + 1) b record_outer
    ∷ load (b + 2) t link_address
    ∷ load (b + 3) t handlers_address ∷ load (b + 4) t bindings_address
    ∷ store b t current_address ∷ []

-- the same for an exit: its serial number, in register e, is the next one, and it is the innermost valid exit
abbrev pub exit_laid : (e b t kind : ℕ) → Steps
exit_laid e b t kind =
    record_laid b t kind
    ++ (perform (Draw e t (pos serials_address)) ∷ store e b record_serial ∷ store (b + 2) b record_link ∷ store b t link_address ∷ [])

-- the code inside fell out: the record and the link outside are current again; t is used
abbrev pub record_left : (b t : ℕ) → Steps
record_left b t = constant t 0 ∷ store (b + 1) t current_address ∷ store (b + 2) t link_address ∷ []

-- the landing: handlers and bindings too are those of where the record was laid
abbrev pub record_landed : (b t : ℕ) → Steps
record_landed b t = record_left b t ++ (store (b + 3) t handlers_address ∷ store (b + 4) t bindings_address ∷ [])

-- where the registers of a record and of what is inside begin: the serial number is in d, the record in d + 1, what it keeps behind that, and
-- the result of the code inside comes in d + 6
abbrev pub inside_from : ℕ → ℕ
inside_from d = d + 6

-- the body of a block, whose result is the block's; so is the word of a transfer
abbrev pub block_code : (d : ℕ) → (body : Steps) → Steps
block_code d body =
    with_block (d + 1) record_words d
    (code_of (exit_laid d (d + 1) (d + 6) exit_kind ++ (body ++ (record_left (d + 1) (d + 7) ++ (move d (d + 6) ∷ [])))))
    (code_of (record_landed (d + 1) (d + 6))) ∷ []

-- the same for a catch, whose tag is in d
abbrev pub catch_code : (d : ℕ) → (body : Steps) → Steps
catch_code d body =
    with_block (d + 1) record_words d
    (code_of (store d (d + 1) record_tag
    ∷ (exit_laid d (d + 1) (d + 6) catch_kind ++ (body ++ (record_left (d + 1) (d + 7) ++ (move d (d + 6) ∷ []))))))
    (code_of (record_landed (d + 1) (d + 6))) ∷ []

-- The segments of a tagbody. d + 6 has the number of the segment that runs; behind it the next one does, until there is none. A transfer
-- goes on at one of them, a level below, with the same serial number. t is behind the registers of the record.
abbrev pub segments_code : (d segments : ℕ) → (bodies : MidCodes) → Steps
segments_code d segments bodies =
    repeat Turn
    (code_of (switch (d + 6) bodies
    ∷ constant (d + 7) 1 ∷ compute (d + 6) which.Add (d + 6) (d + 7) ∷ constant (d + 7) segments ∷ []))
    (test_of Different (d + 6) (d + 7)) (code_of [])
    ∷ []

abbrev pub tagbody_code : (d segments : ℕ) → (bodies : MidCodes) → Steps
tagbody_code d segments bodies =
    constant (d + 6) 0 ∷ constant (d + 7) 0 ∷ perform (Draw d (d + 7) (pos serials_address))
    ∷ repeat Level
    (code_of (
    with_block (d + 1) record_words (d + 7)
    (code_of (record_laid (d + 1) (d + 7) exit_kind
    ++ (store d (d + 1) record_serial ∷ store (d + 3) (d + 1) record_link ∷ store (d + 1) (d + 7) link_address
    ∷ (segments_code d segments bodies ++ record_left (d + 1) (d + 7)))))
    (code_of (record_landed (d + 1) (d + 8) ++ (load (d + 6) (d + 8) landing_address ∷ [])))
    ∷ constant (d + 7) segments ∷ []))
    (test_of Different (d + 6) (d + 7)) (code_of [])
    ∷ constant d nil_word ∷ []

-- A cleanup. While the form runs, d + 1 to d + 5 are those of the record. Then d + 1 is the record to which a transfer goes on, or 0, and
-- d + 2 its landing; the cleanup's result comes in d + 3.
abbrev pub unwind_code : Placement → (d : ℕ) → (form cleanup : Steps) → Steps
unwind_code at d form cleanup =
    with_block (d + 1) record_words d
    (code_of (record_laid (d + 1) (d + 6) cleanup_kind
    ++ (form ++ (record_left (d + 1) (d + 7) ++ (move d (d + 6) ∷ constant (d + 1) 0 ∷ [])))))
    (code_of (record_landed (d + 1) (d + 6)
    ++ (load (d + 1) (d + 6) target_address ∷ load (d + 2) (d + 6) landing_address ∷ store (d + 1) (d + 6) link_address ∷ [])))
    ∷ (cleanup
    ++ (constant (d + 3) 0
    ∷ if_different (d + 1) (d + 3)
    (store (d + 2) (d + 3) landing_address ∷ call d (transfer_routine at) ((d + 1) ∷ d ∷ []) ∷ []) []
    ∷ []))

-- the word in d goes to an exit, with a landing; t and those behind it are free
abbrev pub by_serial : Placement → SitePlace → (serial : Steps) → (d t landing : ℕ) → Steps
by_serial at site serial d t landing =
    serial ++ (site_stored site (t + 1) (t + 2) ++ (constant (t + 1) landing ∷ call d (leave_routine at) (t ∷ d ∷ (t + 1) ∷ []) ∷ []))

abbrev pub landing_kept : (t landing : ℕ) → Steps
landing_kept t landing = constant t landing ∷ constant (t + 1) 0 ∷ store t (t + 1) landing_address ∷ []

abbrev pub to_own : Placement → SitePlace → OwnExit → (d t landing : ℕ) → Steps
to_own at site x d t landing = by x.reach
  where
    by : Reach → Steps
    by AtOnce = landing_kept t landing ++ (cut_to x.record_register d ∷ [])
    by ByTransfer = landing_kept t landing ++ (call d (transfer_routine at) (x.record_register ∷ d ∷ []) ∷ [])
    by BySearch = by_serial at site (move t x.serial ∷ []) d t landing
