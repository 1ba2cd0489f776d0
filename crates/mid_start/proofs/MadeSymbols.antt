-- A symbol that is laid has the word that is found for it; one that is not is laid behind the others.
use Rattle.std.proofs.Common.{◌≡◌, ℕ, ◌+◌, ◌*◌, ◌%◌, ◌^◌, ◌<◌, ◌≤◌, Bool, true, false, List, [], ◌∷◌, ◌++◌, length, Option, Some, None, refl, sym, ◌∙◌, ap, append-nil, length-append, add-zero, arith}
use Rattle.std.specs.Prelude.{◌==◌, slice_get, if◌then◌else◌}
use Rattle.std.specs.Str.{bytes_eq}
use Rattle.std.proofs.lemmas.Slice.Eq.{bytes_eq-Decides}
use Rattle.std.proofs.lemmas.Bool.Decides.{nat_tests}
use Rattle.std.proofs.lemmas.Option.{slice_get-get_or}
use Rattle.base.specs.Data as datum
use Rattle.base.specs.DataMeasures.{SymbolBelow}
use Rattle.base.specs.Names.{IsTable}
use Rattle.base.specs.declared.datum.Name.{Name}
use Rattle.base.specs.declared.datum.Symbol.{Symbol}
use Rattle.base.specs.declared.datum.Symbol.TheVariants.{Named, Fresh}
use Rattle.lang_meaning.specs.declared.program.ProgramRows.{ProgramRows}
use Rattle.lang_meaning.specs.Lookup.{text}
use Rattle.lang_meaning.specs.Values.{SymbolValue, same_symbol, symbol}
use Rattle.lang_meaning.specs.Objects.{Object}
use Rattle.lang_meaning.specs.Literals.{symbol_of, no_object, lay_content}
use Rattle.mid_code.specs.Arena.{word_at}
use Rattle.mid_arena.specs.Tags.{object_tag, symbol_header, fresh_header}
use Rattle.mid_arena.specs.Places.{Spot, end_of, Places, of_symbol, spot_of_symbol, pointer_in}
use Rattle.mid_arena.specs.Layouts.{SymbolAt}
use Rattle.mid_arena.proofs.WordFacts.{same_truth}
use Rattle.mid_start.specs.declared.symbol_words.SymbolWord.{SymbolWord}
use Rattle.mid_start.specs.declared.words.ArenaWords.{ArenaWords}
use Rattle.mid_start.specs.Symbols.{is_same_symbol, word_of_symbol}
use Rattle.mid_start.specs.LaidArena.{end_address, arena_of}
use Rattle.mid_start.specs.LaidWell.{AreSymbolsThere, LaidWell}
use Rattle.mid_start.specs.Contents.{symbol_words, HasBytes}
use Rattle.mid_start.specs.Laying.{LaidThere, Lays}
use Rattle.mid_start.proofs.Lists.{beginning_of}
use Rattle.mid_start.proofs.LaidWords.{word_behind}
use Rattle.mid_start.proofs.Joining.{with_symbol, longer_symbol, joins_symbol, new_symbol_found, symbol_laid}
use Rattle.mid_start.proofs.Made.{spot_behind, nothing_laid, text_count, text_stands}

-- the text of a name of the table
text_there : (names : List (List ℕ)) (name : Name) → name.0 < length names → slice_get names name.0 ≡ Some (text names name.0)
text_there names name h = slice_get-get_or names name.0 [] h

-- symbols that are one by their numbers are one by their texts, and the other way
pub same_told :
    (names : List (List ℕ)) → IsTable names → (s r : Symbol) → SymbolBelow (length names) s → SymbolBelow (length names) r
    → same_symbol (symbol_of names s) (symbol_of names r) ≡ is_same_symbol s r
same_told names table (Named a) (Named b) h g =
    same_truth (bytes_eq (text names a.0) (text names b.0)) (a.0 == b.0)
    (λ e.
    let texts : text names a.0 ≡ text names b.0 = (bytes_eq-Decides (text names a.0) (text names b.0)).0 e in
    let number : a.0 ≡ b.0 = table.once a.0 b.0 (text names b.0) (text_there names a h ∙ ap (λ t. Some t) texts) (text_there names b g) in
    grind (arith, nat_tests))
    (λ e.
    let number : a.0 ≡ b.0 = grind (arith, nat_tests) in
    (bytes_eq-Decides (text names a.0) (text names b.0)).1 (ap (text names) number))
same_told names table (Named a) (Fresh x s) h g = refl
same_told names table (Fresh x s) (Named b) h g = refl
same_told names table (Fresh x s) (Fresh y r) h g = refl

-- the word that is found for a symbol points to its spot
pub found_word :
    (names : List (List ℕ)) → IsTable names → (s : Symbol) → SymbolBelow (length names) s
    → (xs : List SymbolWord) (ps : List (SymbolValue × Spot)) → AreSymbolsThere names xs ps
    → pointer_in (spot_of_symbol (symbol_of names s) ps) ≡ word_of_symbol s xs
found_word names table s h [] [] all = refl
found_word names table s h [] (p ∷ ps) all = absurd all
found_word names table s h (x ∷ xs) [] all = absurd all
found_word names table s h (x ∷ xs) (p ∷ ps) all =
    by (same_symbol (symbol_of names s) p.0) (is_same_symbol s x.symbol)
    (ap (same_symbol (symbol_of names s)) all.0.symbol ∙ same_told names table s x.symbol h all.0.named)
    (found_word names table s h xs ps all.1)
  where
    by : (b c : Bool) → b ≡ c → pointer_in (spot_of_symbol (symbol_of names s) ps) ≡ word_of_symbol s xs
        → pointer_in (if b then Some p.1 else spot_of_symbol (symbol_of names s) ps) ≡ (if c then Some x.word else word_of_symbol s xs)
    by true true e further = ap (λ n. Some n) (sym all.0.word)
    by true false e further = absurd (cc e)
    by false true e further = absurd (cc e)
    by false false e further = further

no_spot : (o : Option Spot) → pointer_in o ≡ None → o ≡ None
no_spot None e = refl
no_spot (Some s) e = absurd (cc e)

-- a symbol that is there is not laid again
pub symbol_found :
    (names : List (List ℕ)) (s : Symbol) (words : ArenaWords) (w : ℕ) → IsTable names → SymbolBelow (length names) s
    → word_of_symbol s words.symbols ≡ Some w → Lays names (lay_content names (datum.symbol s)) words words w
symbol_found names s words w table below found = record {
  there = λ program places store h.
      nothing_laid names program places store words (symbol (symbol_of names s)) w h
      (found_word names table s below words.symbols places.symbols h.listed ∙ found);
}

-- how many words a symbol takes
pub symbol_count : (names : List (List ℕ)) (s : Symbol) → IsTable names → SymbolBelow (length names) s → length (symbol_words names s) ≤ 68
symbol_count names (Named name) table below =
    let short : length (text names name.0) ≤ 263 = table.short name.0 (text names name.0) (text_there names name below) in
    omega (arith, text_count symbol_header (text names name.0))
symbol_count names (Fresh x s) table below = omega arith

symbol_some : (names : List (List ℕ)) (s : Symbol) → 1 ≤ length (symbol_words names s)
symbol_some names (Named name) = omega arith
symbol_some names (Fresh x s) = omega arith

symbol_stands :
    (names : List (List ℕ)) (s : Symbol) (before after : ArenaWords) → before.first % 4 ≡ 0 → after.first ≡ before.first
    → after.words ≡ before.words ++ symbol_words names s → HasBytes names s
    → SymbolAt (arena_of after) (spot_behind before (length (symbol_words names s)) object_tag) (symbol_of names s)
symbol_stands names (Named name) before after e first words bytes =
    text_stands before after symbol_header (text names name.0) e first words bytes
symbol_stands names (Fresh x s) before after e first words bytes = record {
  size = record { words = refl; tag = refl };
  header =
      ap (word_at (arena_of after)) (sym (add-zero (end_address before)))
      ∙ word_behind before after (fresh_header ∷ 4 * (s % 2 ^ 29) ∷ []) 0 fresh_header e first words refl;
  word = word_behind before after (fresh_header ∷ 4 * (s % 2 ^ 29) ∷ []) 1 (4 * (s % 2 ^ 29)) e first words refl;
}

-- a symbol is laid behind the words and symbols that are there
pub record SymbolAdded (names : List (List ℕ)) (before after : ArenaWords) (s : Symbol) (w : ℕ) : Type 0 where
  pub first : after.first ≡ before.first
  pub words : after.words ≡ before.words ++ symbol_words names s
  pub symbols : after.symbols ≡ before.symbols ++ record { word = w; symbol = s } ∷ []
  pub word : w ≡ end_address before + object_tag

pub new_symbol_laid :
    (names : List (List ℕ)) (s : Symbol) (before after : ArenaWords) (w : ℕ) → IsTable names → SymbolBelow (length names) s
    → word_of_symbol s before.symbols ≡ None → HasBytes names s → SymbolAdded names before after s w
    → Lays names (lay_content names (datum.symbol s)) before after w
new_symbol_laid names s before after w table below new bytes added = record { there = λ program places store h. by program places store h }
  where
    by : (program : ProgramRows) (places : Places) (store : List Object) → LaidWell names program places store before
        → LaidThere names program places store after (no_object (symbol (symbol_of names s))) w
    by program places store h =
        let v : SymbolValue = symbol_of names s in
        let spot : Spot = spot_behind before (length (symbol_words names s)) object_tag in
        let absent : spot_of_symbol v places.symbols ≡ None =
        no_spot (spot_of_symbol v places.symbols) (found_word names table s below before.symbols places.symbols h.listed ∙ new) in
        let high : end_of spot ≤ end_address after =
        omega (arith, added.first, ap (λ vs. length vs) added.words, length-append before.words (symbol_words names s)) in
        record {
          places_after = with_symbol v spot places;
          longer = longer_symbol v spot places;
          stands =
              rw (append-nil store)
              (symbol_laid names program places (with_symbol v spot places) store before after (of_symbol v) spot h
              (record {
                first = added.first;
                words = beginning_of before.words (symbol_words names s) after.words added.words;
                symbols = beginning_of before.symbols (record { word = w; symbol = s } ∷ []) after.symbols added.symbols;
              })
              (joins_symbol v spot places) refl high (symbol_some names s) (omega arith) v (record { word = w; symbol = s }) refl refl refl added.symbols absent
              (record { named = below; symbol = refl; word = added.word }) (symbol_stands names s before after h.aligned added.first added.words bytes));
          of_value = ap pointer_in (new_symbol_found v spot places.symbols absent) ∙ ap (λ n. Some n) (sym added.word);
        }
