-- A byte that is no token character.
use Rattle.std.proofs.Common.{◌≡◌, ◌-◌, false, length, take, drop, get_or, sym, ap, ◌∙◌, arith, length-drop}
use Rattle.std.proofs.lemmas.List.{take_all}
use Rattle.front_reader.specs.Characters.{is_token}
use Rattle.front_reader.specs.bridge.Lexemes.{mark_lexed}
use Rattle.front_reader.proofs.Scans.{lex_first}
use Rattle.front_reader.proofs.lexeme.lex.Goals as goal

pub returns-else-is_token : goal.returns-else-is_token
returns-else-is_token c =
    let text = c.args.text.now in
    let none : is_token (get_or text 0 0) ≡ false = sym c.is_token.ensures ∙ c.if-is_token.false in
    let rest : take (length text - 1) (drop 1 text) ≡ drop 1 text = take_all (length text - 1) (drop 1 text) (omega (arith, length-drop 1 text)) in
    rw (lex_first text c.requires, none) (c.mark.ensures ∙ ap (mark_lexed (get_or text 0 0)) rest)
