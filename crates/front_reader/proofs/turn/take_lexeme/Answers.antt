use Rattle.front_reader.specs.Meanings.{number_in}
use Rattle.front_reader.specs.bridge.Lexemes.{atom_of}
use Rattle.front_reader.specs.bridge.Machine.{act, atom_step}
use Rattle.front_reader.specs.bridge.Turns.{open_state}
use Rattle.front_reader.proofs.Acting.{atom-some, act-is-atom, turns-as}
use Rattle.front_reader.proofs.turn.take_lexeme.Goals as goal

pub returns-in_default : goal.returns-in_default
returns-in_default c =
    let some = atom-some c.args.lexeme c.args.word.now c.in_default.not-Close c.in_default.not-Dot c.in_default.not-Open in
    record {
      turns = λ T l.
          turns-as
          (λ s r. act (number_in T) (open_state s c.args.pending.now.items) c.args.place r c.args.word.now c.args.lexeme)
          (λ s r. atom_step (number_in T) (open_state s c.args.pending.now.items) c.args.place r (atom_of c.args.lexeme c.args.word.now))
          c.atom.result c.atom.new.pending.items
          (λ s r. act-is-atom (number_in T) (open_state s c.args.pending.now.items) c.args.place r c.args.word.now c.args.lexeme some)
          (c.atom.ensures.turns T l);
      names = c.atom.ensures.names;
    }
