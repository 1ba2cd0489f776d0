-- The steps that lay a control record, and the code of exits, tagbodies and cleanups, in parts.
use Rattle.std.specs.Prelude.{ℕ, ◌+◌, pos, List, [], ◌∷◌, ◌++◌}
use Rattle.mid_code.specs.declared.operation.Comparison.TheVariants.{Different}
use Rattle.mid_code.specs.declared.operation.Counted.TheVariants.{Level}
use Rattle.mid_code.specs.declared.operation.Operation.TheVariants.{Draw}
use Rattle.mid_code.specs.MidCode.{MidStep, MidCodes, perform, repeat, with_block, code_of}
use Rattle.back_lowering.specs.ControlWords.{current_address, link_address, serials_address, target_address, landing_address, handlers_address, bindings_address, record_serial, record_kind, record_outer, record_link, record_tag, record_words, exit_kind, catch_kind, cleanup_kind}
use Rattle.back_lowering.specs.declared.placement.Placement.{Placement}
use Rattle.back_lowering.specs.Routines.{transfer_routine}
use Rattle.back_lowering.specs.Steps.{Steps, move, constant, load, store, call, test_of, if_different}
use Rattle.back_lowering.specs.Records.{record_laid, exit_laid, record_left, record_landed, segments_code}

-- its kind and the record outside it
abbrev pub record_linked : (b t kind : ℕ) → Steps
record_linked b t kind =
    constant t 0 ∷ constant (t + 1) kind ∷ store (t + 1) b record_kind ∷ load (b + 1) t current_address ∷ store (b + 1) b record_outer ∷ []

-- what is kept of the outside; the record is the current one
abbrev pub record_kept : (b t : ℕ) → Steps
record_kept b t = load (b + 2) t link_address ∷ load (b + 3) t handlers_address ∷ load (b + 4) t bindings_address ∷ store b t current_address ∷ []

-- the next serial number, in register e, is the record's, and the record is the innermost valid exit
abbrev pub exit_drawn : (e b t : ℕ) → Steps
exit_drawn e b t = perform (Draw e t (pos serials_address)) ∷ store e b record_serial ∷ store (b + 2) b record_link ∷ store b t link_address ∷ []

-- the code inside the record of an exit
abbrev pub exit_inside : (d kind : ℕ) → (body : Steps) → Steps
exit_inside d kind body = exit_laid d (d + 1) (d + 6) kind ++ (body ++ (record_left (d + 1) (d + 7) ++ (move d (d + 6) ∷ [])))

-- the same of a catch, which keeps the tag first
abbrev pub catch_inside : (d : ℕ) → (body : Steps) → Steps
catch_inside d body = store d (d + 1) record_tag ∷ exit_inside d catch_kind body

-- where a tagbody begins: the first segment is the next one, and the serial number is drawn
abbrev pub tagbody_begun : (d : ℕ) → Steps
tagbody_begun d = constant (d + 6) 0 ∷ constant (d + 7) 0 ∷ perform (Draw d (d + 7) (pos serials_address)) ∷ []

-- the segments inside the record of a tagbody
abbrev pub segments_inside : (d segments : ℕ) → (bodies : MidCodes) → Steps
segments_inside d segments bodies =
    record_laid (d + 1) (d + 7) exit_kind
    ++ (store d (d + 1) record_serial ∷ store (d + 3) (d + 1) record_link ∷ store (d + 1) (d + 7) link_address
    ∷ (segments_code d segments bodies ++ record_left (d + 1) (d + 7)))

-- a transfer goes on at one of them
abbrev pub segments_landing : (d : ℕ) → Steps
segments_landing d = record_landed (d + 1) (d + 8) ++ (load (d + 6) (d + 8) landing_address ∷ [])

-- the record of a tagbody with its segments, on one level
abbrev pub level_block : (d segments : ℕ) → (bodies : MidCodes) → MidStep
level_block d segments bodies =
    with_block (d + 1) record_words (d + 7) (code_of (segments_inside d segments bodies)) (code_of (segments_landing d))

-- a level after another, until the segments are done
abbrev pub levels : (d : ℕ) → (level : Steps) → MidStep
levels d level = repeat Level (code_of level) (test_of Different (d + 6) (d + 7)) (code_of [])

-- the form of a cleanup inside its record
abbrev pub unwind_inside : (d : ℕ) → (form : Steps) → Steps
unwind_inside d form =
    record_laid (d + 1) (d + 6) cleanup_kind
    ++ (form ++ (record_left (d + 1) (d + 7) ++ (move d (d + 6) ∷ constant (d + 1) 0 ∷ [])))

-- a transfer came to the cleanup: its target and its landing are kept
abbrev pub unwind_landing : (d : ℕ) → Steps
unwind_landing d =
    record_landed (d + 1) (d + 6)
    ++ (load (d + 1) (d + 6) target_address ∷ load (d + 2) (d + 6) landing_address ∷ store (d + 1) (d + 6) link_address ∷ [])

-- the record of a cleanup with the form
abbrev pub unwind_block : (d : ℕ) → (form : Steps) → MidStep
unwind_block d form = with_block (d + 1) record_words d (code_of (unwind_inside d form)) (code_of (unwind_landing d))

-- the transfer goes on
abbrev pub transfer_on : Placement → (d : ℕ) → Steps
transfer_on at d = store (d + 2) (d + 3) landing_address ∷ call d (transfer_routine at) ((d + 1) ∷ d ∷ []) ∷ []

-- behind the cleanup
abbrev pub unwind_end : Placement → (d : ℕ) → Steps
unwind_end at d = constant (d + 3) 0 ∷ if_different (d + 1) (d + 3) (transfer_on at d) [] ∷ []
