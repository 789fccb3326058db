-- What a source text is read as: a program, or its first fault.
use Rattle.std.specs.Prelude.{◌≡◌, ℕ, List, [], ◌∷◌, ◌⊎◌, length, slice_get, Result, Ok, Err}
use Rattle.std.specs.Option.{option_map_or}
use Rattle.plain_text.specs.Lines.{line_at}
use Rattle.moduli_sets.specs.declared.set_name.SetName.{SetName}
use Rattle.source_lexer.specs.declared.token.Token.{Token}
use Rattle.source_lexer.specs.Scan.{Scans, whole, bad_byte, long_literal}
use Rattle.source_tree.specs.declared.declaration.Program.{Program}
use Rattle.source_parser.specs.Limits.{depth_limit, weight_limit}
use Rattle.source_parser.specs.Parsed.{SpellsProgram}
use Rattle.source_parser.specs.Prefixes.{StopsAt, DeepAt}
use Rattle.source_parser.specs.Terminals.{token_kinds}
use Rattle.name_check.specs.Names.{name_faults}
use Rattle.name_check.specs.declared.fault.NameFault.{NameFault}
use Rattle.name_check.specs.declared.fault.NameFault.TheVariants as name
use Rattle.range_inference.specs.Bound.{bound_of}
use Rattle.range_inference.specs.Demands.{too_wide}
use Rattle.range_inference.specs.declared.fault.RangeFault.{RangeFault}
use Rattle.range_inference.specs.declared.fault.RangeFault.TheVariants as range
use Rattle.range_inference.specs.declared.inference.Ranged.{Ranged}
use Rattle.source_reader.specs.declared.fault.ReadFault.{ReadFault}
use Rattle.source_reader.specs.declared.fault.ReadFault.TheVariants.{Refused, NoMemory}
use Rattle.source_reader.specs.declared.fault.SourceFault.{SourceFault}
use Rattle.source_reader.specs.declared.fault.SourceKind.{SourceKind}
use Rattle.source_reader.specs.declared.fault.SourceKind.TheVariants.{Byte, LongNumber, Syntax, TooDeep, UnknownName, NameTwice, WrongKind, LoopAssigned, Arguments, BadRange, EmptyArray, TooMany, TooWide}

-- the most bytes of a source text
abbrev pub text_limit : ℕ
text_limit = 4194304

-- ---- faults of tokens and of grammar
-- the line of a token, or of the end of the text
abbrev pub line_of_place : List ℕ → List Token → ℕ → ℕ
line_of_place text tokens place = option_map_or (λ token. token.line) (slice_get tokens place) (line_at text (length text))

-- At this line the tokens of a text stop to be a prefix of any program, or the text ends and they are no program.
pub record StopsOnLine (text : List ℕ) (line : ℕ) : Type 0 where
  pub tokens : List Token
  pub scans : Scans text tokens whole
  pub place : ℕ
  pub stops : StopsAt depth_limit weight_limit (token_kinds tokens) place
  pub line_is : line ≡ line_of_place text tokens place

-- On this line stands the first token of a text that nests too deep, of tokens that are a prefix of a program.
pub record DeepOnLine (text : List ℕ) (line : ℕ) : Type 0 where
  pub tokens : List Token
  pub scans : Scans text tokens whole
  pub place : ℕ
  pub deep : DeepAt depth_limit weight_limit (token_kinds tokens) place
  pub line_is : line ≡ line_of_place text tokens place

-- the first fault of a text that spells no program, by its kind and line
abbrev pub IsTextFaultOf : SourceKind → List ℕ → ℕ → Type 0
IsTextFaultOf Byte text line = (tokens : List Token) × Scans text tokens (bad_byte line)
IsTextFaultOf LongNumber text line = (tokens : List Token) × Scans text tokens (long_literal line)
IsTextFaultOf Syntax text line = StopsOnLine text line
IsTextFaultOf TooDeep text line = DeepOnLine text line
IsTextFaultOf kind text line = ⊥

abbrev pub IsTextFault : List ℕ → SourceFault → Type 0
IsTextFault text fault = IsTextFaultOf fault.kind text fault.line

-- what parsing a text answers
abbrev pub IsParsed : List ℕ → Result Program ReadFault → Type 0
IsParsed text (Ok program) = SpellsProgram text program
IsParsed text (Err (Refused fault)) = IsTextFault text fault
IsParsed text (Err NoMemory) = Unit {0}

-- ---- faults of names and of ranges
abbrev pub read_fault_of_name : NameFault → ReadFault
read_fault_of_name (name.Unknown line) = Refused (record { kind = UnknownName; line = line })
read_fault_of_name (name.Twice line) = Refused (record { kind = NameTwice; line = line })
read_fault_of_name (name.WrongKind line) = Refused (record { kind = WrongKind; line = line })
read_fault_of_name (name.LoopAssigned line) = Refused (record { kind = LoopAssigned; line = line })
read_fault_of_name (name.Arity line) = Refused (record { kind = Arguments; line = line })
read_fault_of_name (name.BadRange line) = Refused (record { kind = BadRange; line = line })
read_fault_of_name (name.EmptyArray line) = Refused (record { kind = EmptyArray; line = line })
read_fault_of_name (name.TooMany line) = Refused (record { kind = TooMany; line = line })
read_fault_of_name name.NoMemory = NoMemory

abbrev pub read_fault_of_range : RangeFault → ReadFault
read_fault_of_range (range.TooWide line) = Refused (record { kind = TooWide; line = line })
read_fault_of_range range.NoMemory = NoMemory

-- a text spells a program, and this is the first rule of names that it breaks
pub record IsNameFault (text : List ℕ) (fault : SourceFault) : Type 0 where
  pub program : Program
  pub spells : SpellsProgram text program
  pub first : NameFault
  pub others : List NameFault
  pub broken : name_faults program ≡ first ∷ others
  pub fault_is : read_fault_of_name first ≡ Refused fault

-- a text spells a program that keeps the rules of names, and on this line stands the first thing that is too wide for a set
pub record IsWidthFault (set : SetName) (text : List ℕ) (fault : SourceFault) : Type 0 where
  pub program : Program
  pub spells : SpellsProgram text program
  pub kept : name_faults program ≡ []
  pub others : List ℕ
  pub wide : too_wide (bound_of set) program ≡ fault.line ∷ others
  pub kind_is : fault.kind ≡ TooWide

-- the first fault of a text, on a set
abbrev pub IsFirstFault : SetName → List ℕ → SourceFault → Type 0
IsFirstFault set text fault = IsTextFault text fault ⊎ (IsNameFault text fault ⊎ IsWidthFault set text fault)

-- ---- reading
-- a text without a fault on a set, and the program that it spells
pub record IsProgramOf (set : SetName) (text : List ℕ) (program : Program) : Type 0 where
  pub spells : SpellsProgram text program
  pub kept : name_faults program ≡ []
  pub narrow : too_wide (bound_of set) program ≡ []

-- what reading a text answers
abbrev pub IsRead : SetName → List ℕ → Result Ranged ReadFault → Type 0
IsRead set text (Ok ranged) = IsProgramOf set text ranged.checked.program × (ranged.set ≡ set)
IsRead set text (Err (Refused fault)) = IsFirstFault set text fault
IsRead set text (Err NoMemory) = Unit {0}
