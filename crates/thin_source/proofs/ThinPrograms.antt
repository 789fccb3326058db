-- Symbols spell at most one program.
use Rattle.std.proofs.Common.{◌≡◌, ◌++◌, List, ap, ◌∙◌}
use Rattle.std.specs.List.{flat_map}
use Rattle.thin_source.specs.ThinTree.{Declaration, Statement, Program}
use Rattle.thin_source.specs.ThinGrammar.{Symbol, SpellsProgram, statement_symbols}
use Rattle.thin_source.specs.ThinFronts.{DeclarationsFront}
use Rattle.thin_source.proofs.ThinDeclarations.{declarations_once}
use Rattle.thin_source.proofs.ThinStatements.{statements_once, statements_end_declarations}

abbrev pub program_of : List Declaration → List Statement → Program
program_of declarations statements = record { declarations = declarations; statements = statements }

-- the declarations of a program, and the symbols of its statements behind them
pub program_parts : (program : Program) (symbols : List Symbol) → SpellsProgram symbols program → DeclarationsFront program.declarations symbols (flat_map statement_symbols program.statements)
program_parts program symbols (front, declared, whole) = (front, declared, whole, statements_end_declarations program.statements)

pub program_made : (declarations : List Declaration) (statements : List Statement) (symbols s : List Symbol) → DeclarationsFront declarations symbols s
    → s ≡ flat_map statement_symbols statements → SpellsProgram symbols (program_of declarations statements)
program_made declarations statements symbols s (front, declared, whole, ends) e = (front, declared, whole ∙ ap (λ (t : List Symbol). front ++ t) e)

pub program_begins : (symbols : List Symbol) → ((ds : List Declaration) (t : List Symbol) → DeclarationsFront ds symbols t → ⊥) → (program : Program) → SpellsProgram symbols program → ⊥
program_begins symbols none program h = none program.declarations _ (program_parts program symbols h)

pub program_stuck : (declarations : List Declaration) (symbols s : List Symbol) → DeclarationsFront declarations symbols s
    → ((others : List Statement) → s ≡ flat_map statement_symbols others → ⊥) → (program : Program) → SpellsProgram symbols program → ⊥
program_stuck declarations symbols s h none program k = none program.statements (declarations_once declarations program.declarations symbols s _ h (program_parts program symbols k)).1

pub program_once : (a b : Program) (symbols : List Symbol) → SpellsProgram symbols a → SpellsProgram symbols b → a ≡ b
program_once a b symbols h k =
    let declared = declarations_once a.declarations b.declarations symbols _ _ (program_parts a symbols h) (program_parts b symbols k) in
    ap (λ (ds : List Declaration). program_of ds a.statements) declared.0
    ∙ ap (λ (ss : List Statement). program_of b.declarations ss) (statements_once a.statements b.statements declared.1)
