-- What a step of the code leads to is what a step of the machine leads to.
use Rattle.std.proofs.Common.{◌≡◌, ℕ, ◌<◌, ◌≤◌, List as Seq, [], ◌∷◌, length, reverse, take, drop, map, Option, Some, None, Ok, Err, refl, sym, ap, subst, ◌∙◌, arith}
use Rattle.std.proofs.lemmas.List.{length-map}
use Rattle.base.specs.declared.place.Place.{Place}
use Rattle.base.specs.declared.reason.Reason.{Reason}
use Rattle.base.specs.declared.reason.Reason.TheVariants.{UnclosedList, UnclosedComment}
use Rattle.base.specs.declared.reason.Stop.{Stop}
use Rattle.base.specs.declared.reason.Stop.TheVariants.{Refused, NoMemory}
use Rattle.base.specs.Data.{Item}
use Rattle.front_reader.specs.declared.gap.Mode.TheVariants.{Between}
use Rattle.front_reader.specs.declared.gap.Skipped.TheVariants.{Ends as GapEnds, OpenFrom}
use Rattle.front_reader.specs.declared.lexeme.Lexeme.{Lexeme}
use Rattle.front_reader.specs.declared.lexeme.Lexeme.TheVariants.{Close, Dot, Open, Integer, Character, Token, Bar, Text}
use Rattle.front_reader.specs.declared.lexeme.Lexed.TheVariants.{Taken, Fault}
use Rattle.front_reader.specs.declared.pending.Pending.{Pending}
use Rattle.front_reader.specs.declared.cursor.Cursor.{Cursor}
use Rattle.front_reader.specs.Characters.{place_behind, folded}
use Rattle.front_reader.specs.Atoms.{Atom, a_symbol, Spells, decimal, token, barred, quoted, based, marked, lettered, space, newline}
use Rattle.front_reader.specs.bridge.Lexemes.{skip, lex, between_quotes}
use Rattle.front_reader.specs.bridge.Machine.{LexemeStep, next, over, stopped, finished, ending, pending_place, act, by_lexed, by_rest, by_gap, step}
use Rattle.front_reader.specs.bridge.Turns.{Turns, with_open, open_state, NameFits, innermost_of}
use Rattle.front_reader.specs.bridge.Steps.{LeadsTo}
use Rattle.front_reader.proofs.Stepping.{Numbers, state}
use Rattle.front_reader.proofs.Lexing.{spells-lexes}

-- a refusal
pub refusal-leads : (x : LexemeStep) (stop : Stop) (p : Place) (r : Reason) (os : Seq Pending) (left : Seq ℕ)
    → stop ≡ Refused (record { place = p; reason = r }) → x ≡ over (stopped p r left) → LeadsTo x [] (Err stop) os
refusal-leads x stop p r os left e h = subst (λ s. LeadsTo x [] (Err s) os) (sym e) (left, h)

pub fault-leads : (number : Numbers) (rest : Seq ℕ) (place q : Place) (old : Seq Pending) (k : ℕ) (r : Reason)
    → lex rest ≡ Fault k r → q ≡ place_behind place (take k rest)
    → by_lexed number (state rest place [] old) (lex rest) ≡ over (stopped q r rest)
unfolding by_lexed
fault-leads number rest place q old k r e f =
    ap (by_lexed number (state rest place [] old)) e ∙ ap (λ p. over (stopped p r rest)) (sym f)

-- a lexeme is taken
lexed-turns : (number : Numbers) (rest : Seq ℕ) (place : Place) (old : Seq Pending) (n : ℕ) (x : Lexeme)
    → lex rest ≡ Taken n x
    → by_lexed number (state rest place [] (reverse old)) (lex rest)
    ≡ act number (open_state (state (drop n rest) (place_behind place (take n rest)) [] []) old) place rest (take n rest) x
unfolding by_lexed
lexed-turns number rest place old n x e = ap (by_lexed number (state rest place [] (reverse old))) e

pub goes-leads : (number : Numbers) (rest : Seq ℕ) (place : Place) (old os : Seq Pending) (n : ℕ) (x : Lexeme) (w : Seq ℕ) (c : Cursor) (o : Option Item)
    → lex rest ≡ Taken n x → w ≡ take n rest → o ≡ None
    → Turns (λ s r. act number (open_state s old) place r w x) (Ok o) os
    → c.rest.now ≡ drop n rest → c.place ≡ place_behind place (take n rest)
    → by_lexed number (state rest place [] (reverse old)) (lex rest) ≡ next (state c.rest.now c.place [] (reverse os))
goes-leads number rest place old os n x w c o e f g t h k =
    let s = state (drop n rest) (place_behind place (take n rest)) [] [] in
    lexed-turns number rest place old n x e
    ∙ ap (λ v. act number (open_state s old) place rest v x) (sym f) ∙ t s rest
    ∙ ap (λ p. next (with_open s p os)) g
    ∙ ap (λ r. next (state r (place_behind place (take n rest)) [] (reverse os))) (sym h)
    ∙ ap (λ p. next (state c.rest.now p [] (reverse os))) (sym k)

pub whole-leads : (number : Numbers) (rest : Seq ℕ) (place : Place) (old os : Seq Pending) (n : ℕ) (x : Lexeme) (w : Seq ℕ) (c : Cursor) (o : Option Item) (d : Item)
    → lex rest ≡ Taken n x → w ≡ take n rest → o ≡ Some d
    → Turns (λ s r. act number (open_state s old) place r w x) (Ok o) os
    → c.rest.now ≡ drop n rest → c.place ≡ place_behind place (take n rest)
    → by_lexed number (state rest place [] (reverse old)) (lex rest) ≡ next (state c.rest.now c.place (d ∷ []) [])
whole-leads number rest place old os n x w c o d e f g t h k =
    let s = state (drop n rest) (place_behind place (take n rest)) [] [] in
    lexed-turns number rest place old n x e
    ∙ ap (λ v. act number (open_state s old) place rest v x) (sym f) ∙ t s rest
    ∙ ap (λ p. next (with_open s p os)) g
    ∙ ap (λ r. next (state r (place_behind place (take n rest)) (d ∷ []) [])) (sym h)
    ∙ ap (λ p. next (state c.rest.now p (d ∷ []) [])) (sym k)

pub stops-leads : (number : Numbers) (rest : Seq ℕ) (place : Place) (old os : Seq Pending) (n : ℕ) (x : Lexeme) (w : Seq ℕ) (stop : Stop)
    → lex rest ≡ Taken n x → w ≡ take n rest
    → Turns (λ s r. act number (open_state s old) place r w x) (Err stop) os
    → LeadsTo (by_lexed number (state rest place [] (reverse old)) (lex rest)) [] (Err stop) os
stops-leads number rest place old os n x w NoMemory e f t = tt
stops-leads number rest place old os n x w (Refused y) e f t =
    let s = state (drop n rest) (place_behind place (take n rest)) [] [] in (
      rest,
      lexed-turns number rest place old n x e
          ∙ ap (λ v. act number (open_state s old) place rest v x) (sym f) ∙ t s rest,
    )

-- a symbol's name is short enough
symbol-short : (w after name : Seq ℕ) (a : Atom) → Spells w after a → a ≡ a_symbol name → length name ≤ 256
symbol-short w after name a (decimal v u t i k) e = absurd (cc)
symbol-short w after name a (token v u t i f d n) e =
    let same : map folded v ≡ name = cc in omega (arith, n, ap length same, length-map v folded)
symbol-short w after name a (barred bs u m s n) e =
    let same : m ≡ name = cc in omega (arith, n, ap length same)
symbol-short w after name a (quoted bs u m s) e = absurd (cc)
symbol-short w after name a (based l b v u k t i f) e = absurd (cc)
symbol-short w after name a (marked b u t) e = absurd (cc)
symbol-short w after name a (lettered b u t) e = absurd (cc)
symbol-short w after name a (space v u t k) e = absurd (cc)
symbol-short w after name a (newline v u t k) e = absurd (cc)

pub name-fits : (text : Seq ℕ) (n : ℕ) (x : Lexeme) (w : Seq ℕ) → lex text ≡ Taken n x → w ≡ take n text → NameFits x w
name-fits text n Close w e f = tt
name-fits text n Dot w e f = tt
name-fits text n (Open o) w e f = tt
name-fits text n (Integer i) w e f = tt
name-fits text n (Character i) w e f = tt
name-fits text n Text w e f = tt
name-fits text n Token w e f =
    let s = spells-lexes text n Token (a_symbol (map folded (take n text))) e refl in
    omega (arith, symbol-short (take n text) (drop n text) (map folded (take n text)) _ s refl, length-map (take n text) folded, ap length f)
name-fits text n Bar w e f =
    let s = spells-lexes text n Bar (a_symbol (between_quotes (take n text))) e refl in
    omega (arith, symbol-short (take n text) (drop n text) (between_quotes (take n text)) _ s refl, ap (λ v. length (between_quotes v)) f)

-- ---- a gap first

pub open-leads : (number : Numbers) (rest : Seq ℕ) (place q : Place) (os : Seq Pending) (n : ℕ)
    → skip Between 0 0 rest ≡ OpenFrom n → q ≡ place_behind place (take n rest)
    → step number (state rest place [] os) ≡ over (stopped q UnclosedComment (drop n rest))
unfolding step by_gap
open-leads number rest place q os n e f =
    ap (by_gap number (state rest place [] os)) e ∙ ap (λ p. over (stopped p UnclosedComment (drop n rest))) (sym f)

gap-leads : (number : Numbers) (rest after : Seq ℕ) (place q : Place) (os : Seq Pending) (n : ℕ)
    → skip Between 0 0 rest ≡ GapEnds n → after ≡ drop n rest → q ≡ place_behind place (take n rest)
    → step number (state rest place [] os) ≡ by_rest number (state after q [] os) after
unfolding step by_gap
gap-leads number rest after place q os n e f g =
    ap (by_gap number (state rest place [] os)) e
    ∙ ap (λ r. by_rest number (state r (place_behind place (take n rest)) [] os) r) (sym f)
    ∙ ap (λ p. by_rest number (state after p [] os) after) (sym g)

at-end : (number : Numbers) (after : Seq ℕ) (q : Place) (os : Seq Pending) → length after ≡ 0
    → by_rest number (state after q [] os) after ≡ ending [] os
unfolding by_rest
at-end number [] q os e = refl
at-end number (b ∷ bs) q os e = absurd (omega arith)

not-at-end : (number : Numbers) (after : Seq ℕ) (q : Place) (os : Seq Pending) → 0 < length after
    → by_rest number (state after q [] os) after ≡ by_lexed number (state after q [] os) (lex after)
unfolding by_rest
not-at-end number [] q os e = absurd (omega arith)
not-at-end number (b ∷ bs) q os e = refl

innermost-ends : (os : Seq Pending) (p : Place) → innermost_of os ≡ Some p → ending [] os ≡ over (stopped p UnclosedList [])
innermost-ends [] p e = absurd (cc)
innermost-ends (o ∷ os) p e = let same : pending_place o ≡ p = cc in ap (λ q. over (stopped q UnclosedList [])) same

none-ends : (os : Seq Pending) → innermost_of os ≡ None → ending [] os ≡ over (finished [])
none-ends [] e = refl
none-ends (o ∷ os) e = absurd (cc)

pub unclosed-leads : (number : Numbers) (rest after : Seq ℕ) (place q p : Place) (os : Seq Pending) (n : ℕ)
    → skip Between 0 0 rest ≡ GapEnds n → after ≡ drop n rest → q ≡ place_behind place (take n rest) → length after ≡ 0
    → innermost_of os ≡ Some p → step number (state rest place [] os) ≡ over (stopped p UnclosedList [])
unclosed-leads number rest after place q p os n e f g z i =
    gap-leads number rest after place q os n e f g ∙ at-end number after q os z ∙ innermost-ends os p i

pub ends-leads : (number : Numbers) (rest after : Seq ℕ) (place q : Place) (os : Seq Pending) (n : ℕ)
    → skip Between 0 0 rest ≡ GapEnds n → after ≡ drop n rest → q ≡ place_behind place (take n rest) → length after ≡ 0
    → innermost_of os ≡ None → step number (state rest place [] os) ≡ over (finished [])
ends-leads number rest after place q os n e f g z i =
    gap-leads number rest after place q os n e f g ∙ at-end number after q os z ∙ none-ends os i

pub lexeme-leads : (number : Numbers) (rest after : Seq ℕ) (place q : Place) (os : Seq Pending) (n : ℕ)
    → skip Between 0 0 rest ≡ GapEnds n → after ≡ drop n rest → q ≡ place_behind place (take n rest) → 0 < length after
    → step number (state rest place [] os) ≡ by_lexed number (state after q [] os) (lex after)
lexeme-leads number rest after place q os n e f g z =
    gap-leads number rest after place q os n e f g ∙ not-at-end number after q os z
