use Rattle.std.proofs.Common.{◌≡◌, ◌<◌, ℕ, List, length, Vec, ◌∙◌, arith}
use Rattle.std.specs.declared.alloc.Global.{Global}
use Rattle.std.proofs.lemmas.List.{length-map}
use Rattle.sc_items.specs.Kernel.{lists}
use Rattle.sc_items.proofs.Searching.{Searched-begin, Searched-step, Searched-done}
use Rattle.sc_items.proofs.search.states.Goals as goal

length_lists : (keys : List (Vec ℕ Global)) → length (lists keys) ≡ length keys
length_lists keys = length-map keys (λ (v : Vec ℕ Global). v.items)

pub search-init : goal.search-init
search-init c = (Searched-begin c.args.grammar.now c.new-kernels.result.keys c.number.new.kernels.keys c.in_ok-start.field-0.items c.in_ok-number.field-0 c.new-rows.result.items c.new-kernels.ensures.empty c.new-rows.ensures.items c.in_ok-start.ensures c.in_ok-number.ensures, c.in_ok-next.ensures)

pub search-preserved : goal.search-preserved
search-preserved c =
    let number_is : c.len-number.result ≡ length c.search.rows.items = c.len-number.ensures ∙ c.search.rows.ok.0 in
    let within : length c.search.rows.items < length (lists c.search.kernels.keys) = omega (arith, c.search.rows.ok.0, c.len.ensures, c.len-in-search.ensures.len, length_lists c.search.kernels.keys, c.search-test.true) in
    rw c.in_ok-push.ensures.items (Searched-step c.args.grammar.now (lists c.search.kernels.keys) (lists c.explored.new.kernels.keys) c.search.rows.items c.in_ok-explored.field-0 c.len-number.result number_is within c.search.invariant.0 c.in_ok-explored.ensures.found c.in_ok-explored.ensures.keeps c.in_ok-explored.ensures.state, c.in_ok-explored.ensures.next)

pub returns : goal.returns
returns c =
    Searched-done c.args.grammar.now (record { kernels = c.search.kernels; rows = c.search.rows })
    (omega (arith, c.search.rows.ok.0, c.len.ensures, c.len-in-search.ensures.len, length_lists c.search.kernels.keys, c.search-test.false))
    c.search.invariant.0
