-- What people ask a program first: its version, and what it does.
use Rattle.std.specs.Prelude.{◌≡◌, true, ◌||◌, List, [], ◌∷◌, ◌++◌, codes, if◌then◌else◌, Option, Some, None}
use Rattle.std.specs.Str.{bytes_eq}
use Rattle.site_sentences.specs.Lines.{Text, is_sentence}
use Rattle.site_sentences.specs.declared.questions.Question.{Question}
use Rattle.site_sentences.specs.declared.questions.Question.TheVariants.{Version, Help}

abbrev pub asked_by : Text → Option Question
asked_by word =
    if bytes_eq word (codes "--version") || bytes_eq word (codes "-V") then Some Version
    else if bytes_eq word (codes "--help") || (bytes_eq word (codes "-h") || bytes_eq word (codes "help")) then Some Help
    else None

-- what a command line asks: it is one word, and that of a question
abbrev pub asked : List Text → Option Question
asked (word ∷ []) = asked_by word
asked words = None

abbrev pub answer_line : Text → Text
answer_line sentence = codes "sitebuild " ++ (sentence ++ codes "\n")

-- the version is a line; what the program does is a line with the commands below it. What they say, the code alone has
abbrev pub AnswerSays : Question → Text → Type 0
AnswerSays Version text = (number : Text) × (is_sentence number ≡ true) × (text ≡ answer_line number)
AnswerSays Help text = (purpose : Text) × (commands : Text) × (is_sentence purpose ≡ true) × (text ≡ answer_line purpose ++ commands)
