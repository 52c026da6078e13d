use Rattle.std.proofs.Common.{rules, ◌≡◌, Some, None, true, false}
use Rattle.wb_etcd.specs.StoreNames.{endpoints_in, is_prefix}
use Rattle.wb_etcd.proofs.Names.{names, no_endpoints, no_prefix, no_slash_there, no_start, stripped}
use Rattle.wb_etcd.proofs.store.Store.read.Goals as goal

pub returns-in_default-clause-none : goal.returns-in_default-clause-none
returns-in_default-clause-none c = λ _ e p is. no_start c.args.name.now c.in_default.ensures.cases e p is

pub returns-in_default-split_once-clause-none : goal.returns-in_default-split_once-clause-none
returns-in_default-split_once-clause-none c = λ _ e p is.
    let s = c.in-Some.ensures.cases in
    let starts = stripped c.args.name.now c.in-Some.rest.now s.0 s.1 s.2 in
    no_slash_there c.args.name.now c.in-Some.rest.now starts c.in_default-split_once.ensures.cases e p is

pub returns-then-not-is_prefix-clause-none : goal.returns-then-not-is_prefix-clause-none
returns-then-not-is_prefix-clause-none c = λ _ e p is.
    let s = c.in-Some.ensures.cases in
    let starts = stripped c.args.name.now c.in-Some.rest.now s.0 s.1 s.2 in
    let found = c.in-Some-split_once in
    let out : is_prefix found.prefix.now ≡ false = search rules in
    no_prefix c.args.name.now c.in-Some.rest.now found.hosts found.prefix starts found.ensures.cases out e p is

pub returns-in_default-2-clause-none : goal.returns-in_default-2-clause-none
returns-in_default-2-clause-none c = λ _ e p is.
    let s = c.in-Some.ensures.cases in
    let starts = stripped c.args.name.now c.in-Some.rest.now s.0 s.1 s.2 in
    let found = c.in-Some-split_once in
    let none : None ≡ endpoints_in found.hosts.now = search rules in
    no_endpoints c.args.name.now c.in-Some.rest.now found.hosts found.prefix starts found.ensures.cases none e p is

pub returns-clause-found : goal.returns-clause-found
returns-clause-found c =
    let s = c.in-Some.ensures.cases in
    let starts = stripped c.args.name.now c.in-Some.rest.now s.0 s.1 s.2 in
    let found = c.in-Some-split_once in
    let kept : is_prefix found.prefix.now ≡ true = search rules in
    let same : c.in_ok-from_str.field-0 ≡ found.prefix.now = search rules in
    let read : Some c.in-Some-2.endpoints ≡ endpoints_in found.hosts.now = search rules in
    names c.args.name.now c.in-Some.rest.now c.in_ok-from_str.field-0 found.hosts found.prefix c.in-Some-2.endpoints starts found.ensures.cases kept same read
