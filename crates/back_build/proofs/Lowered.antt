-- A program that was lowered, as a setting: with any limit of words and any number of turns it is laid, as its runs ask.
use Rattle.std.proofs.Common.{◌≡◌, ℕ, zero, suc, ◌+◌, ◌-◌, ◌*◌, ◌/◌, ◌^◌, ◌<◌, List, [], ◌∷◌, ◌++◌, length, refl, subst, arith, Some, None, Option}
use Rattle.std.specs.Prelude.{Bool, true, false, map, replicate, slice_get, slice_index, if◌then◌else◌}
use Rattle.base.specs.Names.{IsTable}
use Rattle.lang_meaning.specs.declared.program.ProgramRows.{ProgramRows}
use Rattle.lang_meaning.specs.Facts.{is_whole}
use Rattle.lang_meaning.specs.State.{Limit}
use Rattle.flat_language.specs.Flatten.{flat_program}
use Rattle.flat_language.specs.FlatExits.{ProgramLeads}
use Rattle.flat_boxes.specs.Boxes.{ProgramBoxes}
use Rattle.mid_code.specs.declared.program.MidProcedure.{MidProcedure}
use Rattle.mid_code.specs.Arena.{word_at, is_lent, word_in}
use Rattle.mid_start.specs.declared.words.ArenaWords.{ArenaWords}
use Rattle.mid_start.specs.LaidArena.{memory_of, arena_of}
use Rattle.back_relation.specs.Setting.{Setting, FramesWithin}
use Rattle.back_words.specs.Asked.{NamesAsked}
use Rattle.back_words.specs.Start.{StartsWith}
use Rattle.back_words.specs.Variables.{variable_count}
use Rattle.back_lowered.specs.declared.lowering.LoweredProgram.{LoweredProgram}
use Rattle.back_lowered.specs.Lowered.{IsLoweredProgram}
use Rattle.back_levels.specs.Laid.{IsLaid}

-- a list of words in an arena: what stands there is below 2^32 where all are
low_word : (ws : List ℕ) (i w : ℕ) → ((j : ℕ) → slice_index ws j < 2 ^ 32) → word_in (slice_get (map (λ v. Some v) ws) i) ≡ Some w → w < 2 ^ 32
low_word [] i w low e = absurd (cc e)
low_word (v ∷ ws) zero w low e = subst (λ u. u < 2 ^ 32) (cc e) (low zero)
low_word (v ∷ ws) (suc i) w low e = low_word ws i w (λ j. low (suc j)) e

lent_low : (lent : Bool) (o : Option ℕ) (w : ℕ) → (o ≡ Some w → w < 2 ^ 32) → (if lent then o else None) ≡ Some w → w < 2 ^ 32
lent_low true o w low e = low e
lent_low false o w low e = absurd (cc e)

laid_low : (ws : ArenaWords) → ws.first ≡ 0 → ((j : ℕ) → slice_index ws.words j < 2 ^ 32) → (address w : ℕ) → word_at (arena_of ws) address ≡ Some w → w < 2 ^ 32
laid_low ws first low address w e =
    lent_low (is_lent (arena_of ws) address) (word_in (slice_get (memory_of ws) (address / 4))) w
    (λ h. low_word ws.words (address / 4) w low (subst (λ (n : ℕ). word_in (slice_get (front n) (address / 4)) ≡ Some w) first h)) e
  where
    front : ℕ → List (Option ℕ)
    front n = replicate {A = Option ℕ} (n / 4) None ++ map (λ v. Some v) ws.words

-- words that end where all do, begin at a word
aligned_end : (at words first all : ℕ) → at + 4 * words ≡ first + 4 * all → first ≡ 0 → (n : ℕ) × (at ≡ 4 * n)
aligned_end at words first all e none = (all - words, omega arith)

module _ (names : List (List ℕ)) (program : ProgramRows) (l : LoweredProgram) (is : IsLoweredProgram names (flat_program program) l)
    (leads : ProgramLeads (flat_program program)) (used : List MidProcedure) (frames : FramesWithin l.procedures used) where
  abbrev pub setting_of : Limit → (turns : ℕ) → Setting
  setting_of limit turns = record {
    names = names;
    program = flat_program program;
    leads = leads;
    limit = limit;
    at = l.words.placement;
    variable_words = variable_count names (flat_program program);
    further = is.words.further;
    further_at = is.words.start.further_at;
    symbols = is.words.start.places.symbols;
    procedures = used;
    frames = subst (λ given. FramesWithin given used) is.procedures frames;
    turns_each = turns;
  }

  abbrev pub starts_with : (limit : Limit) (turns : ℕ) → StartsWith (setting_of limit turns) l.words.data
  starts_with limit turns = record {
    words = record { placement = is.words.placement; variables = refl; further = is.words.further_is };
    start = is.words.start;
    at = refl;
    symbols = refl;
  }

  module _ (whole : is_whole program ≡ true) (boxes : ProgramBoxes (flat_program program)) (table : IsTable names) (asked : NamesAsked names (flat_program program))
      (low : (i : ℕ) → slice_index l.words.data.arena.words i < 2 ^ 32) where
    pub is_laid : (limit : Limit) (turns : ℕ) → IsLaid program (setting_of limit turns) l.words.data
    is_laid limit turns = record {
      whole = whole;
      boxes = boxes;
      flat = refl;
      table = table;
      names = asked;
      starts = starts_with limit turns;
      further = record {
        aligned = aligned_end is.words.start.further_at (length is.words.further) l.words.data.arena.first (length l.words.data.arena.words)
            is.words.start.further_end is.words.start.first;
        words = λ i word h. laid_low l.words.data.arena is.words.start.first low _ word (is.words.start.own.further_words i word h);
      };
      symbols = is.words.symbols;
    }
