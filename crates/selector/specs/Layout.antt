-- Where names stand: the scope of a source, with the data words and the first instructions of what is declared.
use Rattle.std.specs.Prelude.{ℕ, ◌+◌, List, [], ◌∷◌, ◌++◌, map, length, Option, Some, None, unsigned_abs}
use Rattle.plain_text.specs.Lookup.{Named, lookup}
use Rattle.source_tree.specs.Scope.{Scope, Declared, variable, array, procedure, range_of, len_of}
use Rattle.source_tree.specs.declared.name.Name.{Name}
use Rattle.source_tree.specs.declared.name.Range.{Range}
use Rattle.source_tree.specs.declared.declaration.Param.{Param}
use Rattle.source_tree.specs.declared.declaration.Local.{Local}
use Rattle.source_tree.specs.declared.declaration.Declaration.{Declaration}
use Rattle.source_tree.specs.declared.declaration.Declaration.TheVariants.{Var, Array, Proc}

-- What a name is declared as, with its number, and its first data word. A variable, parameter or local has no other word,
-- an array as many as its length. The first word of a procedure is that of its first parameter, and the words of its other
-- parameters and of its locals follow; its entry is the place of its first instruction.
pub record Located : Type 0 where
  pub declared : Declared
  pub word : ℕ
  pub entry : ℕ

-- in text order
abbrev pub Layout : Type 0
Layout = Named Located

-- the same names without words and places
abbrev pub scope_of : Layout → Scope
scope_of layout = map (λ named. (named.0, named.1.declared)) layout

-- ---- the layout of declarations, with the number and the word of the next name
abbrev pub in_words : Declared → ℕ → Located
in_words declared w = record { declared = declared; word = w; entry = 0 }

abbrev pub with_placed : {A : Type 0} → (A → Name) → (A → Range) → (k w : ℕ) → List A → Layout → Layout
with_placed name range k w [] layout = layout
with_placed name range k w (x ∷ xs) layout =
    with_placed name range (k + 1) (w + 1) xs (layout ++ ((name x).bytes, in_words (variable k (range x)) w) ∷ [])

abbrev pub with_params_placed : (k w : ℕ) → List Param → Layout → Layout
with_params_placed k w params layout = with_placed (λ p. p.name) (λ p. p.range) k w params layout

abbrev pub with_locals_placed : (k w : ℕ) → List Local → Layout → Layout
with_locals_placed k w locals layout = with_placed (λ l. l.name) (λ l. l.range) k w locals layout

-- the layout of the body of procedure k, whose first word is w
abbrev pub placed_inside : (k w : ℕ) → List Param → List Local → Layout → Layout
placed_inside k w params locals layout =
    with_locals_placed (k + 1 + length params) (w + length params) locals (with_params_placed (k + 1) w params layout)

-- a declaration of number k, whose first word is w; a procedure's first instruction is the one at the entry
abbrev pub with_declared_placed : (k w entry : ℕ) → Declaration → Layout → Layout
with_declared_placed k w entry (Var name range line) layout = layout ++ (name.bytes, in_words (variable k range) w) ∷ []
with_declared_placed k w entry (Array name len range line) layout =
    layout ++ (name.bytes, in_words (array k len range) w) ∷ []
with_declared_placed k w entry (Proc name params locals body line) layout =
    layout ++
    (name.bytes, record { declared = procedure k (map (λ p. p.range) params); word = w; entry = entry }) ∷ []

-- ---- by name
-- Where the rules of names are kept, each name that is used is declared as what it is used for. Elsewhere a word and an
-- entry are 0, a range is empty, a length is 0, and there are no parameters.
abbrev pub word_of : Option Located → ℕ
word_of None = 0
word_of (Some located) = located.word

abbrev pub entry_of : Option Located → ℕ
entry_of None = 0
entry_of (Some located) = located.entry

-- the ranges of the parameters of a procedure
abbrev pub params_of : Option Declared → List Range
params_of (Some (procedure k params)) = params
params_of (Some (variable k range)) = []
params_of (Some (array k len range)) = []
params_of None = []

-- what the name is declared as
abbrev pub declared_at : Layout → Name → Option Declared
declared_at layout name = lookup name.bytes (scope_of layout)

-- its first word
abbrev pub word_at : Layout → Name → ℕ
word_at layout name = word_of (lookup name.bytes layout)

-- the place of the first instruction of a procedure
abbrev pub entry_at : Layout → Name → ℕ
entry_at layout name = entry_of (lookup name.bytes layout)

-- the range of a variable, parameter, local or element
abbrev pub range_at : Layout → Name → Range
range_at layout name = range_of (declared_at layout name)

-- the length of an array
abbrev pub length_at : Layout → Name → ℕ
length_at layout name = unsigned_abs (len_of (declared_at layout name))

-- the ranges of the parameters of a procedure
abbrev pub params_at : Layout → Name → List Range
params_at layout name = params_of (declared_at layout name)
