use Rattle.std.proofs.Common.{◌≡◌, ℕ, List, length, sym, ap, ◌∙◌, subst, arith}
use Rattle.req_keys.specs.Words.{IsRowOver, key_of_words, words_of, word_count}
use Rattle.clauses.specs.Problem.{ClauseProblem}
use Rattle.check_table.proofs.Keys.{width_is}
use Rattle.workers.specs.inside.Tickets.{HasKey, HasWords}
use Rattle.workers.proofs.Tickets.{key_read, both_ok}
use Rattle.workers.proofs.searching.KeptSearcher.read.Goals as goal

pub read_words-requires-clause-count : goal.read_words-requires-clause-count
read_words-requires-clause-count c =
    let p = c.args.table.now.problem in
    ap word_count (c.n-n.ensures.n ∙ ap (λ (q : ClauseProblem). length q.roots) (c.self.view_is ∙ sym c.requires.problem)) ∙ sym (width_is p)

pub returns-clause-key : goal.returns-clause-key
returns-clause-key c =
    let w = c.read_words.new.w.sees in
    let n = c.n-n.result in
    let words = c.deref.result.now in
    let is = c.n-n.ensures.n in
    let few = c.n-n.ensures.problem.few_roots in
    let same = c.deref.ensures.value in
    let roots : n ≡ length c.args.table.now.problem.roots = is ∙ ap (λ (q : ClauseProblem). length q.roots) (c.self.view_is ∙ sym c.requires.problem) in
    let row = subst (λ (l : List ℕ). IsRowOver n l) (sym same) (subst (λ (k : ℕ). IsRowOver k c.read_words.new.words.items) (sym roots) c.in_ok-read_words.ensures.row) in
    let has = subst (HasWords w) (sym same) c.in_ok-read_words.ensures.read in
    both_ok c.from_words.result (λ key. key ≡ key_of_words n words) (λ key. words_of key ≡ words) (HasKey w)
    (λ key made shown. key_read w n words key (roots ∙ ap (λ (q : ClauseProblem). length q.roots) (sym c.read_words.ensures.own.problem)) (omega arith) row made shown has)
    c.from_words.ensures.key c.from_words.ensures.words
