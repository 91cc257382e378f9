-- The bytes of ASCII that readers of text name, and classes of them.
use Rattle.std.specs.Prelude.{Bool, List, [], codes, if◌then◌else◌, nat_le, nat_lt, ℕ, ◌&&◌, ◌+◌, ◌==◌, ◌||◌, ◌∷◌}
use Rattle.site_text.specs.Fronts.{has_one}

-- the bytes that the rules name
abbrev pub tab : ℕ
tab = 9

abbrev pub line_feed : ℕ
line_feed = 10

abbrev pub carriage_return : ℕ
carriage_return = 13

abbrev pub space : ℕ
space = 32

abbrev pub exclamation_mark : ℕ
exclamation_mark = 33

abbrev pub double_quote : ℕ
double_quote = 34

abbrev pub number_sign : ℕ
number_sign = 35

abbrev pub percent_sign : ℕ
percent_sign = 37

abbrev pub ampersand : ℕ
ampersand = 38

abbrev pub single_quote : ℕ
single_quote = 39

abbrev pub left_paren : ℕ
left_paren = 40

abbrev pub right_paren : ℕ
right_paren = 41

abbrev pub star : ℕ
star = 42

abbrev pub plus_sign : ℕ
plus_sign = 43

abbrev pub hyphen : ℕ
hyphen = 45

abbrev pub full_stop : ℕ
full_stop = 46

abbrev pub slash : ℕ
slash = 47

abbrev pub colon : ℕ
colon = 58

abbrev pub semicolon : ℕ
semicolon = 59

abbrev pub less_than : ℕ
less_than = 60

abbrev pub equals_sign : ℕ
equals_sign = 61

abbrev pub greater_than : ℕ
greater_than = 62

abbrev pub upper_x : ℕ
upper_x = 88

abbrev pub left_bracket : ℕ
left_bracket = 91

abbrev pub backslash : ℕ
backslash = 92

abbrev pub right_bracket : ℕ
right_bracket = 93

abbrev pub underscore : ℕ
underscore = 95

abbrev pub backtick : ℕ
backtick = 96

abbrev pub lower_x : ℕ
lower_x = 120

abbrev pub tilde : ℕ
tilde = 126

-- from one to another, both included
abbrev pub between : ℕ → ℕ → ℕ → Bool
between low high c = nat_le low c && nat_le c high

-- a space or a tab
abbrev pub is_space : ℕ → Bool
is_space c = (c == space) || (c == tab)

-- a space, a tab or a line end
abbrev pub is_white : ℕ → Bool
is_white c = (c == space) || ((c == tab) || ((c == line_feed) || (c == carriage_return)))

-- ASCII digits, letters, both, and digits of base 16
abbrev pub is_digit : ℕ → Bool
is_digit c = between 48 57 c

abbrev pub is_letter : ℕ → Bool
is_letter c = between 65 90 c || between 97 122 c

abbrev pub is_alnum : ℕ → Bool
is_alnum c = is_letter c || is_digit c

abbrev pub is_hex : ℕ → Bool
is_hex c = is_digit c || (between 65 70 c || between 97 102 c)

-- an ASCII control
abbrev pub is_control : ℕ → Bool
is_control c = nat_lt c 32 || (c == 127)

-- ASCII punctuation
abbrev pub is_punct : ℕ → Bool
is_punct c = (between 33 47 c || between 58 64 c) || (between 91 96 c || between 123 126 c)

-- in names of Liquid and of the configuration: a letter, a digit, `_` or `-`; the first byte of a word in Liquid is a letter or `_`
abbrev pub is_name_start : ℕ → Bool
is_name_start c = is_letter c || (c == underscore)

abbrev pub is_name_byte : ℕ → Bool
is_name_byte c = is_alnum c || ((c == underscore) || (c == hyphen))

-- one of these
abbrev pub is_one_of : List ℕ → ℕ → Bool
is_one_of w c = has_one (λ d. d == c) w

-- in Markdown something else than text may begin here
abbrev pub is_special : ℕ → Bool
is_special c = is_one_of (codes "\\&`<*_![] \n") c

-- an ASCII letter in lower case, and any other byte as it is
abbrev pub lower : ℕ → ℕ
lower c = if between 65 90 c then c + 32 else c

abbrev pub lowered : List ℕ → List ℕ
lowered [] = []
lowered (c ∷ cs) = lower c ∷ lowered cs
