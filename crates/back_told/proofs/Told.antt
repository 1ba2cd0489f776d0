-- The words of the memory stand for the condition by which the program ends.
use Rattle.std.proofs.Common.{◌≡◌, ◌⊎◌, inl, inr, ℕ, List, slice_index, refl}
use Rattle.lang_meaning.specs.declared.program.ProgramRows.{ProgramRows}
use Rattle.lang_meaning.specs.Meaning.{Meant}
use Rattle.lang_told.specs.Ends.{TellsEnd}
use Rattle.lang_told.specs.Laws.{LawOfAlikeTellings}
use Rattle.flat_language.specs.Flatten.{flat_program}
use Rattle.flat_language.specs.FlatNodes.{tables}
use Rattle.mid_start.specs.declared.symbol_words.SymbolWord.{SymbolWord}
use Rattle.mid_told.specs.StandsFor.{StandsFor, IsTold}
use Rattle.rv_machine.specs.declared.ending.Ending.TheVariants.{Budget, Unhandled}
use Rattle.rv_machine.specs.Run.{Ended}
use Rattle.back_build.specs.Means.{HaltsWith, EndsUnhandled, EndsFull}
use Rattle.back_build.specs.WordsLeft.{AreWordsOf, LawOfWordsLeft}
use Rattle.back_told.specs.Conditions.{LawOfConditionsTold, condition_register}

module _ (left : LawOfWordsLeft) (alike : LawOfAlikeTellings) (names : List (List ℕ)) (program : ProgramRows) (symbols : List SymbolWord) (m : Meant) (x : Ended) where
  stands : (u : EndsUnhandled names program symbols m x) (words : List ℕ) → AreWordsOf x.at.state words
      → StandsFor names program.classes u.has_word.state u.condition words (slice_index x.at.state.registers condition_register)
  stands u words are = record {
    program = tables (flat_program program);
    classes_are = refl;
    places = u.has_word.places;
    machine = u.has_word.arena;
    represents = u.has_word.represents;
    of_value = u.has_word.of_value;
    same_words = left u.has_word.arena x.at u.has_word.leaves words are;
  }

  unhandled : EndsUnhandled names program symbols m x → (words told : List ℕ) → AreWordsOf x.at.state words
      → IsTold names program.classes words (slice_index x.at.state.registers condition_register) told → TellsEnd names program m told
  unhandled u words told are is = record {
    condition = u.condition;
    place = u.place;
    end = u.end;
    tells = (alike names program.classes m.store u.has_word.state.store u.condition told u.has_word.alike).1
        (is.there u.has_word.state u.condition (stands u words are));
  }

  tells : (x.ending ≡ Budget) ⊎ HaltsWith names program symbols m x ⊎ EndsUnhandled names program symbols m x ⊎ EndsFull names program symbols x
      → (class : ℕ) → x.ending ≡ Unhandled class → (words told : List ℕ) → AreWordsOf x.at.state words
      → IsTold names program.classes words (slice_index x.at.state.registers condition_register) told → TellsEnd names program m told
  tells (inl budget) class e = absurd (cc (budget, e))
  tells (inr (inl h)) class e = let other = h.ending in absurd (cc (other, e))
  tells (inr (inr (inl u))) class e = unhandled u
  tells (inr (inr (inr f))) class e = let other = f.ending in absurd (cc (other, e))

-- **the law of the conditions told**
pub law_of_conditions_told : LawOfWordsLeft → LawOfAlikeTellings → LawOfConditionsTold
law_of_conditions_told left alike names program symbols image built arena input fits small bytes n few class e =
    tells left alike names program symbols _ _ ((built arena input fits small bytes).ends n few) class e
