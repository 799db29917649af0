use Rattle.std.proofs.Common.{◌≡◌, ℕ, ◌+◌, ◌/◌, ◌<◌, List, [], ◌∷◌, ◌++◌, length, map, sym, ap, ◌∙◌, subst, arith, le_antisymm}
use Rattle.std.specs.List.{range_with_len}
use Rattle.std.proofs.lemmas.List.FromFn.{length-map-range_with_len, map-range_with_len_more}
use Rattle.req_keys.specs.Key.{PositionSet}
use Rattle.req_keys.specs.Words.{word_of, key_of_words}
use Rattle.clauses.specs.Problem.{ClauseProblem}
use Rattle.check_table.specs.Views.{after_write, after_post, posted_key}
use Rattle.check_table.specs.declared.view.MainView.{MainView}
use Rattle.check_table.proofs.Keys.{width_is, key_shown}
use Rattle.check_table.proofs.table.CheckTable.post.Goals as goal

pub write-requires-clause-at : goal.write-requires-clause-at
write-requires-clause-at c = ap (λ (m : MainView). length m.written) c.loop-j.invariant.1 ∙ length-map-range_with_len (word_of c.args.key.now) 0 c.loop-j.j

pub write-requires-clause-room : goal.write-requires-clause-room
write-requires-clause-room c = subst (λ (m : ℕ). c.loop-j.j < m) (ap (λ (k : ℕ). (k + 63) / 64) (c.n.ensures.n ∙ c.requires.key) ∙ sym (width_is _)) c.loop-j-test.true

pub loop-j-preserved : goal.loop-j-preserved
loop-j-preserved c = (
  c.write.ensures.table ∙ c.loop-j.invariant.0,
  c.write.ensures.view ∙ ap (after_write c.word.result) c.loop-j.invariant.1
      ∙ ap (λ (l : List ℕ). record c.args.main.now.sees { written = l })
      (ap (λ (x : ℕ). map (word_of c.args.key.now) (range_with_len 0 c.loop-j.j) ++ x ∷ []) c.word.ensures.value ∙ sym (map-range_with_len_more (word_of c.args.key.now) 0 c.loop-j.j c.loop-j.j (omega arith))),
)

pub returns-clause-at : goal.returns-clause-at
returns-clause-at c t is =
    let key = c.args.key.now in
    let same : c.main.inside.posted ≡ t = cc in
    let many : c.main.inside.posted ≡ length c.args.main.now.sees.entries = c.main.invariant.2 ∙ ap (λ z. length z.sees.entries) c.main.view_is in
    let room = c.if-at-self.false in let size = c.self.invariant.0 ∙ ap (λ z. z.size) c.self.view_is in
    let all = le_antisymm c.loop-j.auto.j-end c.loop-j-test.false in
    let words = ap (λ (k : ℕ). map (word_of key) (range_with_len 0 k)) (all ∙ ap (λ (k : ℕ). (k + 63) / 64) c.n.ensures.n) in
    let shown = ap (λ (q : ClauseProblem). key_of_words (length q.roots) (map (word_of key) (range_with_len 0 c.loop-j.j))) c.requires.own.problem ∙ key_shown c.args.self.now.problem key _ (c.n.ensures.key, c.requires.key) words in
    (sym same ∙ many, omega arith, c.publish.ensures.view ∙ ap after_post c.loop-j.invariant.1 ∙ ap (λ (k : PositionSet). posted_key k c.args.main.now.sees) shown)
