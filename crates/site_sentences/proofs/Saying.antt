-- A line of parts says what it is to say.
use Rattle.std.proofs.Common.{◌≡◌, ◌∙◌, ◌++◌, [], true, ap, Err, IfOk, Ok, Result, String}
use Rattle.std.specs.String.{string_bytes}
use Rattle.site_words.specs.declared.faults.UsageKind.{UsageKind}
use Rattle.site_sentences.specs.Lines.{Says, Text, UsageSays, is_sentence, line_of, usage_code}
use Rattle.site_sentences.specs.Questions.{AnswerSays, answer_line}
use Rattle.site_sentences.specs.declared.questions.Question.TheVariants.{Version, Help}

pub says : {A E : Type 0} (result : Result (String A) E) (sentence place : Text) {code place' code' : Text} → is_sentence sentence ≡ true → place ≡ place' → code ≡ code'
    → IfOk result (λ text. string_bytes text ≡ line_of place sentence code) → IfOk result (λ text. Says place' code' (string_bytes text))
says (Ok text) sentence place {code} {place'} one at of is = (sentence, one, is ∙ ap (λ p. line_of p sentence code) at ∙ ap (λ c. line_of place' sentence c) of)
says (Err e) sentence place one at of is = is

-- the same with the commands behind it
pub says_usage : (kind : UsageKind) (sentence commands : Text) {text line code : Text} → is_sentence sentence ≡ true → text ≡ line ++ commands → line ≡ line_of [] sentence code
    → code ≡ usage_code kind → UsageSays kind text
says_usage kind sentence commands one added is of = (sentence, commands, one, added ∙ ap (λ l. l ++ commands) (is ∙ ap (λ c. line_of [] sentence c) of))

-- an answer of one line, and one with the commands below it
pub answers_version : {A E : Type 0} (result : Result (String A) E) (number : Text) → is_sentence number ≡ true → IfOk result (λ text. string_bytes text ≡ answer_line number)
    → IfOk result (λ text. AnswerSays Version (string_bytes text))
answers_version (Ok text) number one is = (number, one, is)
answers_version (Err e) number one is = is

pub answers_help : (purpose commands : Text) {text line : Text} → is_sentence purpose ≡ true → text ≡ line ++ commands → line ≡ answer_line purpose → AnswerSays Help text
answers_help purpose commands one added is = (purpose, commands, one, added ∙ ap (λ l. l ++ commands) is)
