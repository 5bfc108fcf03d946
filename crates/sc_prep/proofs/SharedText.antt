-- What configurations share of one line.
use Rattle.std.proofs.Common.{◌≡◌, ℕ, ◌-◌, List, Some, Result, Ok, Err, drop, take, subst, sym, OnOk}
use Rattle.c11_directives.specs.PutOut.{PutsOut}
use Rattle.c11_directives.specs.Reaches.{at_line, in_file, itself}
use Rattle.c11_directives.specs.declared.directive.Directive.TheVariants as directive
use Rattle.sc_base.specs.declared.token.Token as base
use Rattle.sc_lines.specs.declared.line.Line as declared
use Rattle.sc_prep.proofs.ApartLemmas.{apart-drop, apart-left}
use Rattle.sc_prep.proofs.ComesBack.{comes-acts, comes-line}
use Rattle.sc_prep.proofs.Facts.{take-append-drop}
use Rattle.sc_prep.proofs.Terms.{ComesAt, Context, Line, LineReaches, Machine, Place, Sets, StandApart, State, Walk, tokens_of}
use Rattle.sc_prep.specs.Thin.{Shares, TextShares, WherePutOut}

-- two facts of one answer
pub on_ok_both : {A E P Q R : Type 0} (r : Result A E) → (P → Q → R) → OnOk r P → OnOk r Q → OnOk r R
on_ok_both (Ok a) goes one two = goes one two
on_ok_both (Err e) goes one two = tt

-- the tokens of a line of a file
pub apart-of_file : (tokens : List base.Token) (line : declared.Line) → StandApart tokens → StandApart (tokens_of tokens line)
apart-of_file tokens line apart =
    let rest = drop line.first tokens in
    let n = line.end - line.first in
    apart-left (take n rest) (drop n rest) (subst StandApart (sym (take-append-drop n rest)) (apart-drop line.first tokens apart))

-- a line that includes nothing comes to itself alone
itself-alone : {x : Context} {l at : Line} {s end : State} {chain : List Place} (P : Line → State → Type 0) → (l.directive ≡ Some directive.Include → ⊥) → LineReaches x l s chain (at_line at end)
    → P at end → P l s
itself-alone P other itself has = has
itself-alone P other (in_file t ts header hash file is closes says header_is shallow hashed searching again reaches) has = absurd (other is)

-- what a line puts out that includes nothing
pub text-put : {files names more : List (List ℕ)} {old new : Sets} {walk next : Walk} {x : Context} (from : Machine → Type 0) (l : Line) → (l.directive ≡ Some directive.Include → ⊥)
    → TextShares files names old walk l more new next → WherePutOut files names old walk from (λ config m. ComesAt x m l) new next (Shares new more files next)
text-put from l other text = λ c d c_is d_is c_live d_live k m k_at m_at k_from m_from chain line away s t f index n p c_comes d_comes c_puts d_puts.
    text c d c_is d_is c_live d_live k m k_at m_at (comes-acts c_comes) (comes-acts d_comes) f index n p
    (itself-alone (λ at end. PutsOut end at f index n) other (comes-line c_comes) c_puts) (itself-alone (λ at end. PutsOut end at f index p) other (comes-line d_comes) d_puts)
