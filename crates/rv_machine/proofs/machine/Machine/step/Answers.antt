use Rattle.std.proofs.Common.{◌≡◌, ℕ, List, ap, sym, refl}
use Rattle.std.specs.Prelude.{Option}
use Rattle.rv_machine.specs.declared.ending.TrapKind.TheVariants.{BadWord}
use Rattle.rv_machine.specs.Memory.{number_at}
use Rattle.rv_machine.specs.Step.{trapped, unknown, known, execute}
use Rattle.rv_machine.proofs.Calls.{answered}
use Rattle.rv_machine.proofs.machine.Machine.step.Goals as goal

fetched : (found word : Option ℕ) (address pc : ℕ) (bytes memory : List ℕ) → found ≡ number_at 4 address bytes → address ≡ pc → bytes ≡ memory → found ≡ word → number_at 4 pc memory ≡ word
fetched found word address pc bytes memory a b c d = cc

pub returns-in-None-clause-row : goal.returns-in-None-clause-row
returns-in-None-clause-row c = (
  trapped BadWord c.args.self.now.state.pc,
  unknown c.in-Some.word (fetched _ _ _ _ _ _ c.word_at.ensures c.pc.ensures c.arena.ensures.exact c.in-Some.is) c.in-None.ensures.exact refl,
  (ap (trapped BadWord) (sym c.pc-in-None.ensures), refl),
)

pub returns-in-Some-decode-clause-row : goal.returns-in-Some-decode-clause-row
returns-in-Some-decode-clause-row c = (
  execute c.in-Some-decode.instruction c.args.self.now.state,
  known c.in-Some.word c.in-Some-decode.instruction (fetched _ _ _ _ _ _ c.word_at.ensures c.pc.ensures c.arena.ensures.exact c.in-Some.is) c.in-Some-decode.ensures.exact refl,
  c.execute.ensures,
)

pub returns-in-Some-decode-clause-call : goal.returns-in-Some-decode-clause-call
returns-in-Some-decode-clause-call c = λ which e. answered c.in-Some-decode.instruction c.args.self.now c.execute.new.self c.execute.result which c.execute.ensures e
