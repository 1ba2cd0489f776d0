-- The name is laid, and then the class behind it.
use Rattle.std.proofs.Common.{◌+◌, ◌*◌, length, refl, ap, length-append, arith}
use Rattle.std.proofs.lemmas.List.{length-map}
use Rattle.mid_start.specs.Settling.{class_heading, precedence_words, slot_words}
use Rattle.mid_start.proofs.ClassObjects.{slots_length}
use Rattle.mid_start.proofs.ClassSteps.{class_settles}
use Rattle.mid_start.proofs.Steps.{parts_pushed}
use Rattle.mid_start.proofs.classes.lay_class.Goals as goal

pub returns-clause-within : goal.returns-clause-within
returns-clause-within c =
    let heading = class_heading c.args.class c.in_ok-name.name c.args.truth c.args.row.now in
    let above = precedence_words c.args.row.now.precedence in
    let slots = slot_words c.args.slots.now in
    record {
      first = c.in_ok-name.ensures.within.first;
      count =
          omega (
            arith,
            c.in_ok-name.ensures.within.count,
            ap (λ xs. length xs) c.in_ok-push_heading.ensures,
            length-append c.lay_name.new.words.words heading,
            ap (λ xs. length xs) c.in_ok-push_precedence.ensures,
            length-append c.push_heading.new.words above,
            length-map c.args.row.now.precedence (λ d. 4 * d),
            ap (λ xs. length xs) c.in_ok-push_slots.ensures,
            length-append c.push_precedence.new.words slots,
            slots_length c.args.slots.now,
            c.requires.slots,
          );
    }

pub returns-clause-settles : goal.returns-clause-settles
returns-clause-settles c program here =
    class_settles c.args.names.now program c.args.class c.args.row.now c.in_ok-name.name c.args.truth c.args.slots.now c.args.words.now c.lay_name.new.words _ _ here c.in_ok-name.ensures.made
    (record {
      first = refl;
      symbols = refl;
      words =
          parts_pushed c.lay_name.new.words.words c.push_heading.new.words c.push_precedence.new.words c.push_slots.new.words
          (class_heading c.args.class c.in_ok-name.name c.args.truth c.args.row.now) (precedence_words c.args.row.now.precedence) (slot_words c.args.slots.now)
          c.in_ok-push_heading.ensures c.in_ok-push_precedence.ensures c.in_ok-push_slots.ensures;
    })
    (ap (λ n. n + 2) c.end_address-word.ensures)
