mod DeclaredMore
mod ScopeSteps
mod Meant
mod Found
mod InOrder
mod Alike
