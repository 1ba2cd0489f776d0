-- The condition is made, or there is no room for it.
use Rattle.std.proofs.Common.{List, Option, ap, subst, arith}
use Rattle.eval_store.specs.declared.word.Word.{Word}
use Rattle.eval_store.specs.declared.word.Word.TheVariants.{Nil}
use Rattle.eval_store.specs.declared.object.Instance.{Instance}
use Rattle.eval_store.specs.declared.object.Object.TheVariants as object
use Rattle.eval_state.specs.Building.{IsBuilt}
use Rattle.eval_state.proofs.Conditions.{signals_it, has_no_room}
use Rattle.eval_state.proofs.machine.Machine.signal.Goals as goal

pub returns-in-Some : goal.returns-in-Some
returns-in-Some c =
    let with_slots = λ (sl : List (Option Word)). (let i : Instance = record { class = c.args.class; slots = sl; mark = Nil } in i) in
    signals_it c.args.self.now c.build.new.self c.args.class c.args.level c.instance_words-size.result c.in-Ok.count c.args.words.now (with_slots c.in_ok-slots.slots) c.args.around
    (omega arith) c.instance_words-size.ensures (ap with_slots c.in_ok-slots.ensures) c.in-Some.condition
    (subst (IsBuilt c.args.self.now c.build.new.self c.instance_words-size.result 0 (object.Instance (with_slots c.in_ok-slots.slots))) c.in-Some.is c.in_ok-condition.ensures)

pub returns-in_default-2 : goal.returns-in_default-2
returns-in_default-2 c =
    let with_slots = λ (sl : List (Option Word)). (let i : Instance = record { class = c.args.class; slots = sl; mark = Nil } in i) in
    has_no_room c.args.self.now c.build.new.self c.args.class c.args.level c.instance_words-size.result c.in-Ok.count c.args.words.now (with_slots c.in_ok-slots.slots) c.args.around
    (omega arith) c.instance_words-size.ensures (ap with_slots c.in_ok-slots.ensures)
    (subst (IsBuilt c.args.self.now c.build.new.self c.instance_words-size.result 0 (object.Instance (with_slots c.in_ok-slots.slots))) c.in_default-2.is c.in_ok-condition.ensures)
