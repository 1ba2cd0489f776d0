-- The slots in front are those of the activation before.
use Rattle.std.proofs.Common.{◌≡◌, ◌-◌, length, take, reverse, ap, ◌∙◌, arith}
use Rattle.eval_machine.specs.Configuration.{configuration, come_to}
use Rattle.eval_store.specs.View.{seen}
use Rattle.eval_state.specs.Frames.{frame_slots, frames_in, others_of, outcome_of}
use Rattle.eval_control.proofs.restoring.restores_slots.Goals as goal

pub returns : goal.returns
returns c =
    let m = c.args.machine.now in
    let saved = c.args.saved in
    let count : c.saturating_sub-left.result ≡ length m.slots.items - m.current.slots = omega arith in
    let slots : c.truncate.new.self.items ≡ others_of m.current.slots m.slots.items = c.truncate.ensures.items ∙ ap (λ n. take n m.slots.items) count in
    record {
      given = c.come_to.ensures.given;
      comes = λ names b k.
          c.come_to.ensures.comes names b k
          ∙ ap (λ a. configuration (come_to (outcome_of names c.args.outcome)) (frames_in names a (others_of 0 m.operands.items) c.truncate.new.self.items (reverse m.frames.items)) (seen names m.store (record b { frame = frame_slots names a c.truncate.new.self.items }))) c.replace.ensures.after
          ∙ ap (λ xs. configuration (come_to (outcome_of names c.args.outcome)) (frames_in names saved (others_of 0 m.operands.items) xs (reverse m.frames.items)) (seen names m.store (record b { frame = frame_slots names saved xs }))) slots;
    }
