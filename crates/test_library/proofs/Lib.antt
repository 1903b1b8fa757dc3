mod FewEnds
