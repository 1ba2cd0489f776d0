-- An object is laid behind its parts: a string, a vector, a cons.
use Rattle.std.proofs.Common.{◌≡◌, ℕ, zero, suc, ◌+◌, ◌*◌, ◌%◌, ◌<◌, ◌≤◌, List, [], ◌∷◌, ◌++◌, length, Some, ⊎_elim, refl, sym, ◌∙◌, ap, append_assoc, append-nil, add-zero, length-append, arith}
use Rattle.std.specs.Prelude.{slice_get, slice_index_or}
use Rattle.std.proofs.lemmas.Bool.{cases_lt}
use Rattle.base.specs.Data as datum
use Rattle.base.specs.Names.{slice_get-front, slice_get-behind}
use Rattle.lang_meaning.specs.declared.program.ProgramRows.{ProgramRows}
use Rattle.lang_meaning.specs.Values.{Value, nil, object}
use Rattle.lang_meaning.specs.Objects.{Object, cons, string, vector}
use Rattle.lang_meaning.specs.Literals.{Laid, no_object, after_parts, lay_content, lay_items}
use Rattle.mid_code.specs.Arena.{word_at}
use Rattle.mid_arena.specs.Tags.{cons_tag, object_tag, string_header, vector_header}
use Rattle.mid_arena.specs.Places.{Spot, end_of, Places, of_object, with_object, pointer_in, word_of, WordsOf}
use Rattle.mid_arena.specs.Layouts.{byte_words, packed, AreBytes, TextAt, ConsAt, VectorAt, ObjectAt}
use Rattle.mid_arena.proofs.Keeping.{extends_one, words_extended, as_many_words}
use Rattle.mid_arena.proofs.Owners.{new_spot_found}
use Rattle.mid_start.specs.declared.words.ArenaWords.{ArenaWords}
use Rattle.mid_start.specs.LaidArena.{end_address, arena_of}
use Rattle.mid_start.specs.LaidWell.{LaidWell}
use Rattle.mid_start.specs.Contents.{packed_words, text_words}
use Rattle.mid_start.specs.Laying.{Longer, LaidThere, Lays, LaysAll, conses, LaysConses}
use Rattle.mid_start.proofs.LaidWords.{Appended, appended_grown, word_behind}
use Rattle.mid_start.proofs.Joining.{longer_same, longer_both, longer_object, extends_longer, joins_object, object_laid}

-- the spot of so many words behind those that are there
abbrev pub spot_behind : ArenaWords → ℕ → ℕ → Spot
spot_behind words count tag = record { address = end_address words; words = count; tag = tag }

-- ---- an object behind those that were laid

module _ (names : List (List ℕ)) (program : ProgramRows) (places : Places) (store : List Object) where
  pub nothing_laid : (words : ArenaWords) (v : Value) (w : ℕ) → LaidWell names program places store words → word_of places v ≡ Some w
      → LaidThere names program places store words (no_object v) w
  nothing_laid words v w h e = record { places_after = places; longer = longer_same places; stands = rw (append-nil store) h; of_value = e }

  pub object_after :
      (m : Places) (mid after : ArenaWords) (parts : List Object) (o : Object) (ws : List ℕ) (tag w : ℕ)
      → Longer places m → LaidWell names program m (store ++ parts) mid → Appended mid after ws → 1 ≤ length ws → tag < 4
      → ObjectAt names program (with_object (spot_behind mid (length ws) tag) m) (arena_of after) (spot_behind mid (length ws) tag) o
      → w ≡ end_address mid + tag → LaidThere names program places store after (after_parts (length store) parts o) w
  object_after m mid after parts o ws tag w longer stands more some small made word =
      let s : Spot = spot_behind mid (length ws) tag in
      let high : end_of s ≤ end_address after = omega (arith, more.first, ap (λ vs. length vs) more.words, length-append mid.words ws) in
      let number : length store + length parts ≡ length m.objects = omega (arith, stands.count, length-append store parts) in
      record {
        places_after = with_object s m;
        longer = longer_both places m (with_object s m) longer (longer_object s m);
        stands =
            rw (← append_assoc store parts (o ∷ []))
            (object_laid names program m (with_object s m) (store ++ parts) mid after (of_object (length m.objects)) s stands
            (appended_grown mid after ws more) (joins_object s m) refl high some small o refl (length-append m.objects (Some s ∷ [])) refl more.symbols made);
        of_value =
            ap (λ n. word_of (with_object s m) (object n)) number ∙ ap pointer_in (new_spot_found s m) ∙ ap (λ n. Some n) (sym word);
      }

-- ---- texts

pub packed_count : (bytes : List ℕ) (n : ℕ) → length (packed_words bytes n) ≡ n
packed_count bytes zero = refl
packed_count bytes (suc n) = omega (arith, length-append (packed_words bytes n) (packed bytes (4 * n) ∷ []), packed_count bytes n)

pub text_count : (header : ℕ) (bytes : List ℕ) → length (text_words header bytes) ≡ 2 + byte_words (length bytes)
text_count header bytes = omega (arith, packed_count bytes (byte_words (length bytes)))

-- a word of the bytes
packed_there : (bytes : List ℕ) (n i : ℕ) → i < n → slice_get (packed_words bytes n) i ≡ Some (packed bytes (4 * i))
packed_there bytes zero i h = absurd (omega arith)
packed_there bytes (suc n) i h =
    ⊎_elim (λ low. slice_get-front (packed_words bytes n) (packed bytes (4 * n) ∷ []) i (packed bytes (4 * i)) (packed_there bytes n i low))
    (λ high.
    let last : i ≡ length (packed_words bytes n) = omega (arith, packed_count bytes n) in
    let same : 4 * n ≡ 4 * i = omega arith in
    ap (slice_get (packed_words bytes n ++ packed bytes (4 * n) ∷ [])) last ∙ slice_get-behind (packed_words bytes n) (packed bytes (4 * n))
    ∙ ap (λ k. Some (packed bytes k)) same)
    (cases_lt i n)

pub text_stands :
    (before after : ArenaWords) (header : ℕ) (bytes : List ℕ) → before.first % 4 ≡ 0 → after.first ≡ before.first
    → after.words ≡ before.words ++ text_words header bytes → AreBytes bytes
    → TextAt (arena_of after) (spot_behind before (length (text_words header bytes)) object_tag) header bytes
text_stands before after header bytes e first words are = record {
  size = record { words = text_count header bytes; tag = refl };
  bytes = are;
  header = ap (word_at (arena_of after)) (sym (add-zero (end_address before))) ∙ word_behind before after (text_words header bytes) 0 header e first words refl;
  count = word_behind before after (text_words header bytes) 1 (4 * length bytes) e first words refl;
  words = λ i h.
      ap (word_at (arena_of after)) (omega arith)
      ∙ word_behind before after (text_words header bytes) (suc (suc i)) (packed bytes (4 * i)) e first words
      (packed_there bytes (byte_words (length bytes)) i h);
}

pub string_laid :
    (names : List (List ℕ)) (before after : ArenaWords) (bytes : List ℕ) (w : ℕ) → Appended before after (text_words string_header bytes) → AreBytes bytes
    → w ≡ end_address before + object_tag → Lays names (lay_content names (datum.string bytes)) before after w
string_laid names before after bytes w more are word = record {
  there = λ program places store h.
      object_after names program places store places before after [] (string bytes) (text_words string_header bytes) object_tag w (longer_same places)
      (rw (append-nil store) h) more (omega arith) (omega arith)
      (text_stands before after string_header bytes h.aligned more.first more.words are) word;
}

-- ---- a vector, after its elements

abbrev pub vector_words : List ℕ → List ℕ
vector_words ws = vector_header ∷ 4 * length ws ∷ ws

-- the word of a value at a place
pub record WordThere (places : Places) (vs : List Value) (ws : List ℕ) (i : ℕ) : Type 0 where
  pub word : ℕ
  pub there : slice_get ws i ≡ Some word
  pub of_value : word_of places (slice_index_or vs i nil) ≡ Some word

pub word_there : (places : Places) (vs : List Value) (ws : List ℕ) (i : ℕ) → WordsOf places vs ws → i < length vs → WordThere places vs ws i
word_there places [] ws i h low = absurd (omega arith)
word_there places (v ∷ vs) [] i h low = absurd h
word_there places (v ∷ vs) (w ∷ ws) zero h low = record { word = w; there = refl; of_value = h.0 }
word_there places (v ∷ vs) (w ∷ ws) (suc i) h low =
    let rest = word_there places vs ws i h.1 (omega arith) in
    record { word = rest.word; there = rest.there; of_value = rest.of_value }

pub vector_stands :
    (places : Places) (before after : ArenaWords) (vs : List Value) (ws : List ℕ) → before.first % 4 ≡ 0 → after.first ≡ before.first
    → after.words ≡ before.words ++ vector_words ws → WordsOf places vs ws
    → VectorAt places (arena_of after) (spot_behind before (length (vector_words ws)) object_tag) vs
vector_stands places before after vs ws e first words are =
    let same = as_many_words places vs ws are in
    record {
      size = record { words = omega (arith, same); tag = refl };
      header = ap (word_at (arena_of after)) (sym (add-zero (end_address before))) ∙ word_behind before after (vector_words ws) 0 vector_header e first words refl;
      count = word_behind before after (vector_words ws) 1 (4 * length ws) e first words refl ∙ ap (λ n. Some (4 * n)) same;
      values = λ i h.
          let it = word_there places vs ws i are h in
          record {
            word = it.word;
            of_value = it.of_value;
            stands =
                ap (word_at (arena_of after)) (omega arith)
                ∙ word_behind before after (vector_words ws) (suc (suc i)) it.word e first words it.there;
          };
    }

pub vector_laid :
    (names : List (List ℕ)) (old mid new : ArenaWords) (ds : datum.Items) (ws : List ℕ) (w : ℕ) → LaysAll names (lay_items names ds) old mid ws
    → Appended mid new (vector_words ws) → w ≡ end_address mid + object_tag → Lays names (lay_content names (datum.vector ds)) old new w
vector_laid names old mid new ds ws w items more word = record {
  there = λ program places store h.
      let it = items.there program places store h in
      let parts = lay_items names ds (length store) in
      let s : Spot = spot_behind mid (length (vector_words ws)) object_tag in
      object_after names program places store it.places_after mid new parts.0 (vector parts.1) (vector_words ws) object_tag w it.longer it.stands more (omega arith) (omega arith)
      (vector_stands (with_object s it.places_after) mid new parts.1 ws it.stands.aligned more.first more.words
      (words_extended it.places_after (with_object s it.places_after) (extends_one s it.places_after) parts.1 ws it.of_values))
      word;
}

-- ---- conses

pub cons_stands :
    (places : Places) (before after : ArenaWords) (a d : Value) (car cdr : ℕ) → before.first % 4 ≡ 0 → after.first ≡ before.first
    → after.words ≡ before.words ++ car ∷ cdr ∷ [] → word_of places a ≡ Some car → word_of places d ≡ Some cdr
    → ConsAt places (arena_of after) (spot_behind before 2 cons_tag) a d
cons_stands places before after a d car cdr e first words first_word second_word = record {
  size = record { words = refl; tag = refl };
  car = record {
    word = car;
    of_value = first_word;
    stands = ap (word_at (arena_of after)) (sym (add-zero (end_address before))) ∙ word_behind before after (car ∷ cdr ∷ []) 0 car e first words refl;
  };
  cdr = record { word = cdr; of_value = second_word; stands = word_behind before after (car ∷ cdr ∷ []) 1 cdr e first words refl };
}

-- none yet
pub no_cons_laid : (words : ArenaWords) (end : ℕ) → LaysConses [] end words words end
no_cons_laid words end = record { there = λ names program places store vs v h. by names program places store vs v h }
  where
    by : (names : List (List ℕ)) (program : ProgramRows) (places : Places) (store : List Object) (vs : List Value) (v : Value)
        → LaidWell names program places store words → WordsOf places vs [] → word_of places v ≡ Some end
        → LaidThere names program places store words (conses vs v (length store)) end
    by names program places store [] v h all e = nothing_laid names program places store words v end h e
    by names program places store (u ∷ us) v h all e = absurd all

-- one in front of the others
pub cons_more :
    (ws : List ℕ) (car end list w : ℕ) (old mid new : ArenaWords) → LaysConses ws end old mid list → Appended mid new (car ∷ list ∷ [])
    → w ≡ end_address mid + cons_tag → LaysConses (car ∷ ws) end old new w
cons_more ws car end list w old mid new rest more word = record { there = λ names program places store vs v h. by names program places store vs v h }
  where
    by : (names : List (List ℕ)) (program : ProgramRows) (places : Places) (store : List Object) (vs : List Value) (v : Value)
        → LaidWell names program places store old → WordsOf places vs (car ∷ ws) → word_of places v ≡ Some end
        → LaidThere names program places store new (conses vs v (length store)) w
    by names program places store [] v h all e = absurd all
    by names program places store (u ∷ us) v h all e =
        let it = rest.there names program places store us v h all.1 e in
        let others : Laid = conses us v (length store) in
        let s : Spot = spot_behind mid 2 cons_tag in
        let wider = extends_one s it.places_after in
        object_after names program places store it.places_after mid new others.objects (cons u others.value) (car ∷ list ∷ []) cons_tag w it.longer it.stands more
        (omega arith) (omega arith)
        (cons_stands (with_object s it.places_after) mid new u others.value car list it.stands.aligned more.first more.words
        (wider.word u car ((extends_longer places it.places_after it.longer).word u car all.0)) (wider.word others.value list it.of_value))
        word
